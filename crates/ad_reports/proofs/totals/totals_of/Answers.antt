use Rattle.std.proofs.Common.{◌∙◌, ◌^◌, get_or, ap, arith}
use Rattle.desk_types.specs.declared.reply.CampaignDay.{CampaignDay}
use Rattle.ad_reports.specs.declared.totals.Totals.{Totals}
use Rattle.ad_reports.specs.Totals.{with_row}
use Rattle.ad_reports.proofs.Summing.{AreOf_most, totals_more}
use Rattle.ad_reports.proofs.totals.totals_of.Goals as goal

pub with_row-totals-requires : goal.with_row-totals-requires
with_row-totals-requires c = record { few = AreOf_most c.loop-row.row-index (2 ^ 63) c.loop-row.totals (omega arith) c.loop-row.invariant.few }

pub loop-row-preserved : goal.loop-row-preserved
loop-row-preserved c =
    let none : CampaignDay = record { campaign = 0; budget = 0; shown = 0; clicks = 0; spent = 0; escrowed = 0; free = 0; credited = 0 } in
    let rows = c.args.rows.now in
    let i = c.loop-row.row-index in
    record {
      sums = c.with_row-totals.ensures.sums ∙ ap (λ (totals : Totals). with_row totals (get_or rows i none)) c.loop-row.invariant.sums
          ∙ totals_more rows i none (omega arith);
      few = c.with_row-totals.ensures.one_more i c.loop-row.invariant.few;
    }
