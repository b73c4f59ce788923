-- The sums of all campaigns, one more at a time.
use Rattle.std.specs.Prelude.{ℕ, ◌+◌, ◌*◌, ◌^◌, ◌≤◌, List, sum_by}
use Rattle.desk_types.specs.declared.reply.CampaignDay.{CampaignDay}
use Rattle.ad_reports.specs.declared.totals.Totals.{Totals}

-- the sums of some campaigns
abbrev pub totals_of : List CampaignDay → Totals
totals_of rows = record {
  budget = sum_by (λ row. row.budget) rows;
  shown = sum_by (λ row. row.shown) rows;
  clicks = sum_by (λ row. row.clicks) rows;
  spent = sum_by (λ row. row.spent) rows;
  escrowed = sum_by (λ row. row.escrowed) rows;
  free = sum_by (λ row. row.free) rows;
  credited = sum_by (λ row. row.credited) rows;
}

-- the sums with the numbers of one more campaign
abbrev pub with_row : Totals → CampaignDay → Totals
with_row totals row = record {
  budget = totals.budget + row.budget;
  shown = totals.shown + row.shown;
  clicks = totals.clicks + row.clicks;
  spent = totals.spent + row.spent;
  escrowed = totals.escrowed + row.escrowed;
  free = totals.free + row.free;
  credited = totals.credited + row.credited;
}

-- no sum is above what so many campaigns may have
pub record AreOf (count : ℕ) (totals : Totals) : Type 0 where
  pub budget : totals.budget ≤ 2 ^ 64 * count
  pub shown : totals.shown ≤ 2 ^ 64 * count
  pub clicks : totals.clicks ≤ 2 ^ 64 * count
  pub spent : totals.spent ≤ 2 ^ 64 * count
  pub escrowed : totals.escrowed ≤ 2 ^ 64 * count
  pub free : totals.free ≤ 2 ^ 64 * count
  pub credited : totals.credited ≤ 2 ^ 64 * count
