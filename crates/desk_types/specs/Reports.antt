-- What reports and statements tell of a day: counts and sums over all placements.
use Rattle.std.specs.Prelude.{ℕ, ◌-◌, Bool, true, false, ◌==◌, ◌&&◌, nat_lt, nat_le, if◌then◌else◌, List, length, map, filter, take, sum_by, count_by}
use Rattle.desk_types.specs.declared.limits.TheConstants.{STATEMENT_MAX}
use Rattle.desk_types.specs.declared.reply.CampaignDay.{CampaignDay}
use Rattle.desk_types.specs.declared.reply.DayReport.{DayReport}
use Rattle.desk_types.specs.declared.reply.HostDay.{HostDay}
use Rattle.desk_types.specs.declared.reply.ShownFate.{ShownFate}
use Rattle.desk_types.specs.declared.reply.ShownFate.TheVariants as told
use Rattle.desk_types.specs.declared.reply.ShownRow.{ShownRow}
use Rattle.desk_types.specs.declared.rows.Campaign.{Campaign}
use Rattle.desk_types.specs.declared.rows.Fate.{Fate}
use Rattle.desk_types.specs.declared.rows.Fate.TheVariants.{Open, Settled, Credited}
use Rattle.desk_types.specs.declared.rows.Placement.{Placement}
use Rattle.desk_types.specs.declared.tables.Tables.{Tables}
use Rattle.desk_types.specs.Day.{day_of}
use Rattle.desk_types.specs.Money.{budget, escrowed, is_shown_on, is_spent, spent, used}
use Rattle.desk_types.specs.State.{State}

-- how many placements of a campaign were shown on a day, and how many of them a click settled
abbrev pub shown : Tables → ℕ → ℕ → ℕ → ℕ
shown T account campaign day = count_by (is_shown_on account campaign day) T.placements

abbrev pub clicks : Tables → ℕ → ℕ → ℕ → ℕ
clicks T account campaign day = count_by (λ p. is_shown_on account campaign day p && is_spent p.fate) T.placements

-- whether the host credited a placement
abbrev pub is_credited : Fate → Bool
is_credited Open = false
is_credited (Settled at) = false
is_credited (Credited settled credited) = true

-- the prices that the host credited, of the placements of the campaign that were shown on the day
abbrev pub credited : Tables → ℕ → ℕ → ℕ → ℕ
credited T account campaign day =
    sum_by (λ p. p.price) (filter (λ p. is_shown_on account campaign day p && is_credited p.fate) T.placements)

-- the numbers of a campaign on a day
unfoldable pub campaign_day : State → ℕ → Campaign → CampaignDay
campaign_day S day c = record {
  campaign = c.number;
  budget = budget S c.account c.number day;
  shown = shown S.tables c.account c.number day;
  clicks = clicks S.tables c.account c.number day;
  spent = spent S c.account c.number day;
  escrowed = escrowed S c.account c.number day;
  free = budget S c.account c.number day - used S c.account c.number day;
  credited = credited S.tables c.account c.number day;
}

-- those of an account: a row for each of its campaigns
abbrev pub day_report : State → ℕ → ℕ → DayReport
day_report S account day = record {
  day = day;
  rows = map (campaign_day S day) (filter (λ c. c.account == account) S.tables.campaigns);
}

-- those of all campaigns, added up
abbrev pub host_day : State → ℕ → HostDay
host_day S day = let rows = map (campaign_day S day) S.tables.campaigns in record {
  day = day;
  accounts = length S.tables.accounts;
  shown = sum_by (λ r. r.shown) rows;
  clicks = sum_by (λ r. r.clicks) rows;
  spent = sum_by (λ r. r.spent) rows;
  escrowed = sum_by (λ r. r.escrowed) rows;
  credited = sum_by (λ r. r.credited) rows;
}

-- what an account is told of a fate at a moment: an open placement has expired from its deadline on
abbrev pub told_fate : ℕ → ℕ → Fate → ShownFate
told_fate moment deadline Open = if nat_lt moment deadline then told.Open else told.Expired
told_fate moment deadline (Settled at) = told.Settled at
told_fate moment deadline (Credited settled credited) = told.Credited settled credited

-- a placement as its account is told of it
abbrev pub shown_row : ℕ → Placement → ShownRow
shown_row moment p = record {
  placement = p.number;
  campaign = p.campaign;
  line = p.line;
  place = p.place;
  price = p.price;
  shown = p.shown;
  fate = told_fate moment p.deadline p.fate;
}

-- whether a placement is the account's, was shown on the day, and has at least this number
abbrev pub is_stated : ℕ → ℕ → ℕ → Placement → Bool
is_stated account day from p = p.account == account && (day_of p.shown == day && nat_le from p.number)

-- the first of these placements, as many as a statement has
abbrev pub stated : Tables → ℕ → ℕ → ℕ → List Placement
stated T account day from = take STATEMENT_MAX (filter (is_stated account day from) T.placements)

-- the statement of an account on a day, from this number on
abbrev pub statement : State → ℕ → ℕ → ℕ → List ShownRow
statement S account day from = map (shown_row S.moment) (stated S.tables account day from)
