use Rattle.std.proofs.Common.{◌∙◌, arith}
use Rattle.std.proofs.lemmas.List.{get_or_default}
use Rattle.desk_io.proofs.PuttingEach.{puts_one_more, puts_stopped}
use Rattle.csv_import.specs.ShownCsv.{shown_line}
use Rattle.csv_import.proofs.shown.put_lines.Goals as goal

pub returns-in_err-put_line-clause-puts : goal.returns-in_err-put_line-clause-puts
returns-in_err-put_line-clause-puts g c =
    puts_stopped shown_line c.args.rows.now c.loop-row.row-index _ (omega arith) (get_or_default c.args.rows.now c.loop-row.row-index _ _ (omega arith))
    c.loop-row.invariant.puts c.in_err-put_line.ensures.puts c.from_residual.ensures.0

pub loop-row-preserved : goal.loop-row-preserved
loop-row-preserved g c = record {
  puts = puts_one_more shown_line c.args.rows.now c.loop-row.row-index _ (omega arith) (get_or_default c.args.rows.now c.loop-row.row-index _ _ (omega arith))
      c.loop-row.invariant.puts c.in_ok-put_line.ensures.puts;
  source_side = c.in_ok-put_line.ensures.source_side ∙ c.loop-row.invariant.source_side;
}
