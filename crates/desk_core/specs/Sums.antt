-- Counts and sums over placements.
use Rattle.std.specs.Prelude.{ℕ, ◌+◌, ◌*◌, ◌^◌, ◌<◌, ◌≤◌, ◌&&◌, List, filter, sum_by, count_by}
use Rattle.desk_types.specs.declared.reply.CampaignDay.{CampaignDay}
use Rattle.desk_types.specs.declared.reply.HostDay.{HostDay}
use Rattle.desk_types.specs.declared.rows.Placement.{Placement}
use Rattle.desk_types.specs.Money.{is_escrowed, is_shown_on, is_spent}
use Rattle.desk_types.specs.Reports.{is_credited}
use Rattle.desk_core.specs.declared.sums.Sums.{Sums}

-- those of the placements that are of a campaign and were shown on a day, at a moment
abbrev pub sums_of : ℕ → ℕ → ℕ → ℕ → List Placement → Sums
sums_of account campaign day moment ps = record {
  shown = count_by (is_shown_on account campaign day) ps;
  clicks = count_by (λ p. is_shown_on account campaign day p && is_spent p.fate) ps;
  spent = sum_by (λ p. p.price) (filter (λ p. is_shown_on account campaign day p && is_spent p.fate) ps);
  escrowed = sum_by (λ p. p.price) (filter (λ p. is_shown_on account campaign day p && is_escrowed moment p) ps);
  credited = sum_by (λ p. p.price) (filter (λ p. is_shown_on account campaign day p && is_credited p.fate) ps);
}

-- counts and sums, and others with them
abbrev pub both : Sums → Sums → Sums
both sums more = record {
  shown = sums.shown + more.shown;
  clicks = sums.clicks + more.clicks;
  spent = sums.spent + more.spent;
  escrowed = sums.escrowed + more.escrowed;
  credited = sums.credited + more.credited;
}

-- the counts and sums of so many placements
pub record AreOf (count : ℕ) (sums : Sums) : Type 0 where
  pub shown : sums.shown ≤ count
  pub clicks : sums.clicks ≤ count
  pub spent : sums.spent ≤ 2 ^ 64 * count
  pub escrowed : sums.escrowed ≤ 2 ^ 64 * count
  pub credited : sums.credited ≤ 2 ^ 64 * count

-- the sums of all campaigns with the numbers of further ones
abbrev pub with_rows : HostDay → List CampaignDay → HostDay
with_rows sums rows = record sums {
  shown = sums.shown + sum_by (λ r. r.shown) rows;
  clicks = sums.clicks + sum_by (λ r. r.clicks) rows;
  spent = sums.spent + sum_by (λ r. r.spent) rows;
  escrowed = sums.escrowed + sum_by (λ r. r.escrowed) rows;
  credited = sums.credited + sum_by (λ r. r.credited) rows;
}

-- these are numbers of 64 bits
pub record HasRoomFor (sums : HostDay) (rows : List CampaignDay) : Type 0 where
  pub shown : (with_rows sums rows).shown < 2 ^ 64
  pub clicks : (with_rows sums rows).clicks < 2 ^ 64
  pub spent : (with_rows sums rows).spent < 2 ^ 64
  pub escrowed : (with_rows sums rows).escrowed < 2 ^ 64
  pub credited : (with_rows sums rows).credited < 2 ^ 64
