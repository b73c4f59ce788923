-- How the money of a campaign on a day moves.
use Rattle.std.specs.Prelude.{◌≡◌, ℕ, ◌+◌, Bool, true, false, ◌==◌, ◌&&◌, nat_le, if◌then◌else◌, ◌≤◌, ◌≤ℤ◌, pos, List, [], ◌∷◌, Option, None, Some, filter, sum_by}
use Rattle.desk_types.specs.declared.call.Call.{Call}
use Rattle.desk_types.specs.declared.call.Call.TheVariants.{AddCampaign, SetBudget, Search, Click}
use Rattle.desk_types.specs.declared.rows.Placement.{Placement}
use Rattle.desk_types.specs.Day.{day_of}
use Rattle.desk_types.specs.Money.{budget, escrowed, free, is_escrowed, is_shown_on, spent}
use Rattle.desk_types.specs.State.{State}

-- a campaign of an account, and a day
pub record CampaignAndDay : Type 0 where
  pub account : ℕ
  pub campaign : ℕ
  pub day : ℕ

abbrev pub on_day : ℕ → ℕ → ℕ → CampaignAndDay
on_day account campaign day = record { account = account; campaign = campaign; day = day }

-- the day's budget of the campaign, what is spent of it, and what is escrowed
pub record Amounts : Type 0 where
  pub budget : ℕ
  pub spent : ℕ
  pub escrowed : ℕ

abbrev pub money : State → CampaignAndDay → Amounts
money S on = record {
  budget = budget S on.account on.campaign on.day;
  spent = spent S on.account on.campaign on.day;
  escrowed = escrowed S on.account on.campaign on.day;
}

-- the prices, added up, of those of the placements that are of the campaign and were shown on the day
abbrev pub prices : CampaignAndDay → List Placement → ℕ
prices on ps = sum_by (λ p. p.price) (filter (is_shown_on on.account on.campaign on.day) ps)

-- an amount goes from free to escrowed
pub record IsEscrowed (amount : ℕ) (before after : Amounts) : Type 0 where
  pub budget : after.budget ≡ before.budget
  pub spent : after.spent ≡ before.spent
  pub escrowed : after.escrowed ≡ before.escrowed + amount

-- an amount goes from escrowed to free
abbrev pub IsFreed : ℕ → Amounts → Amounts → Type 0
IsFreed amount before after = IsEscrowed amount after before

-- an amount goes from escrowed to spent
pub record IsSettled (amount : ℕ) (before after : Amounts) : Type 0 where
  pub budget : after.budget ≡ before.budget
  pub spent : after.spent ≡ before.spent + amount
  pub escrowed : before.escrowed ≡ after.escrowed + amount

-- the money where the campaign's budget is set to an amount on a day, for that day and the days after
abbrev pub with_budget : CampaignAndDay → ℕ → CampaignAndDay → Amounts → Amounts
with_budget set amount on before =
    if set.account == on.account && (set.campaign == on.campaign && nat_le set.day on.day)
    then record before { budget = amount } else before

-- the placements whose price is escrowed and whose deadline comes up to this moment
abbrev pub expiring : State → ℕ → List Placement
expiring S moment = filter (λ p. is_escrowed S.moment p && nat_le p.deadline moment) S.tables.placements

-- the placement that a click settles, if it settles one: that of its number, where the price is escrowed
abbrev pub settling : ℕ → Option Placement → List Placement
settling moment (Some p) = if is_escrowed moment p then p ∷ [] else []
settling moment None = []

-- a placement's price is at most its bid, which its campaign can pay on the day
pub record IsAffordable (S : State) (p : Placement) : Type 0 where
  pub price : p.price ≤ p.bid
  pub free : pos p.bid ≤ℤ free S p.account p.campaign (day_of p.shown)

-- whether an accepted call of this kind may move money
abbrev pub may_move_money : Call → Bool
may_move_money (AddCampaign account key budget) = true
may_move_money (SetBudget account key campaign amount) = true
may_move_money (Search text places) = true
may_move_money (Click placement) = true
may_move_money _ = false
