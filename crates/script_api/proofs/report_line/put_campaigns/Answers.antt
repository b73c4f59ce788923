use Rattle.std.proofs.Common.{◌∙◌, arith}
use Rattle.std.proofs.lemmas.List.{get_or_default}
use Rattle.desk_io.proofs.PuttingEach.{puts_one_more, puts_stopped}
use Rattle.script_api.specs.ReportLine.{campaign_text}
use Rattle.script_api.proofs.report_line.put_campaigns.Goals as goal

pub returns-in_err-put_campaign-clause-puts : goal.returns-in_err-put_campaign-clause-puts
returns-in_err-put_campaign-clause-puts g c =
    puts_stopped campaign_text c.args.rows.now c.loop-row.row-index _ (omega arith) (get_or_default c.args.rows.now c.loop-row.row-index _ _ (omega arith))
    c.loop-row.invariant.puts c.in_err-put_campaign.ensures.puts c.from_residual.ensures.0

pub loop-row-preserved : goal.loop-row-preserved
loop-row-preserved g c = record {
  puts = puts_one_more campaign_text c.args.rows.now c.loop-row.row-index _ (omega arith) (get_or_default c.args.rows.now c.loop-row.row-index _ _ (omega arith))
      c.loop-row.invariant.puts c.in_ok-put_campaign.ensures.puts;
  source_side = c.in_ok-put_campaign.ensures.source_side ∙ c.loop-row.invariant.source_side;
}
