-- The sums of some campaigns, one campaign more.
use Rattle.std.proofs.Common.{◌≡◌, ℕ, ◌+◌, ◌<◌, ◌≤◌, List, length, take, get_or, arith}
use Rattle.std.proofs.lemmas.List.Sums.{sum_by_more}
use Rattle.desk_types.specs.declared.reply.CampaignDay.{CampaignDay}
use Rattle.ad_reports.specs.declared.totals.Totals.{Totals}
use Rattle.ad_reports.specs.Totals.{AreOf, totals_of, with_row}

-- what so many campaigns may have, more campaigns may have
pub AreOf_most : (count most : ℕ) (totals : Totals) → count ≤ most → AreOf count totals → AreOf most totals
AreOf_most count most totals few are = record {
  budget = omega arith;
  shown = omega arith;
  clicks = omega arith;
  spent = omega arith;
  escrowed = omega arith;
  free = omega arith;
  credited = omega arith;
}

pub totals_more : (rows : List CampaignDay) (i : ℕ) (d : CampaignDay) → i < length rows → with_row (totals_of (take i rows)) (get_or rows i d) ≡ totals_of (take (i + 1) rows)
totals_more rows i d inside =
    cc (
      sum_by_more (λ (row : CampaignDay). row.budget) rows i d inside,
      sum_by_more (λ (row : CampaignDay). row.shown) rows i d inside,
      sum_by_more (λ (row : CampaignDay). row.clicks) rows i d inside,
      sum_by_more (λ (row : CampaignDay). row.spent) rows i d inside,
      sum_by_more (λ (row : CampaignDay). row.escrowed) rows i d inside,
      sum_by_more (λ (row : CampaignDay). row.free) rows i d inside,
      sum_by_more (λ (row : CampaignDay). row.credited) rows i d inside,
    )
