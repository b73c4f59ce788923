use Rattle.std.proofs.Common.{◌∙◌, arith}
use Rattle.std.proofs.lemmas.List.{get_or_default}
use Rattle.desk_io.proofs.PuttingEach.{puts_one_more, puts_stopped}
use Rattle.ad_reports.specs.TableLine.{column_text}
use Rattle.ad_reports.proofs.line.put_columns.Goals as goal

pub returns-in_err-put_column-clause-puts : goal.returns-in_err-put_column-clause-puts
returns-in_err-put_column-clause-puts g c =
    puts_stopped column_text c.args.columns.now c.loop-column.column-index _ (omega arith) (get_or_default c.args.columns.now c.loop-column.column-index _ _ (omega arith))
    c.loop-column.invariant.puts c.in_err-put_column.ensures.puts c.from_residual.ensures.0

pub loop-column-preserved : goal.loop-column-preserved
loop-column-preserved g c = record {
  puts = puts_one_more column_text c.args.columns.now c.loop-column.column-index _ (omega arith) (get_or_default c.args.columns.now c.loop-column.column-index _ _ (omega arith))
      c.loop-column.invariant.puts c.in_ok-put_column.ensures.puts;
  source_side = c.in_ok-put_column.ensures.source_side ∙ c.loop-column.invariant.source_side;
}
