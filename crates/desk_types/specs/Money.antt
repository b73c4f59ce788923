-- The money of a campaign on a day: sums over all placements.
use Rattle.std.specs.Prelude.{ℕ, ◌+◌, Bool, true, false, not, ◌==◌, ◌&&◌, nat_lt, nat_le, ℤ, pos, ◌-ℤ◌, List, filter, find, sum_by, option_map, unwrap_or}
use Rattle.std.specs.List.{list_any}
use Rattle.desk_types.specs.declared.rows.BudgetSet.{BudgetSet}
use Rattle.desk_types.specs.declared.rows.Placement.{Placement}
use Rattle.desk_types.specs.declared.rows.Fate.{Fate}
use Rattle.desk_types.specs.declared.rows.Fate.TheVariants.{Open, Settled, Credited}
use Rattle.desk_types.specs.Day.{day_of}
use Rattle.desk_types.specs.State.{State}

-- whether a setting is of this campaign, and of this day or an earlier one
abbrev pub is_set_by : ℕ → ℕ → ℕ → BudgetSet → Bool
is_set_by account campaign day b = b.account == account && (b.campaign == campaign && nat_le (day_of b.at) day)

-- whether no setting of the campaign up to the day is of a later day than this one
abbrev pub is_latest : List BudgetSet → ℕ → ℕ → ℕ → BudgetSet → Bool
is_latest budgets account campaign day b =
    not (list_any (λ other. is_set_by account campaign day other && nat_lt (day_of b.at) (day_of other.at)) budgets)

-- the budget by these settings: the amount of the campaign's setting of the latest day up to this one, or 0 where it has
-- none
abbrev pub budget_in : List BudgetSet → ℕ → ℕ → ℕ → ℕ
budget_in budgets account campaign day =
    unwrap_or (option_map (λ b. b.amount)
    (find (λ b. is_set_by account campaign day b && is_latest budgets account campaign day b) budgets)) 0

-- the budget of a campaign on a day
unfoldable pub budget : State → ℕ → ℕ → ℕ → ℕ
budget S account campaign day = budget_in S.tables.budgets account campaign day

-- whether a placement is of this campaign and was shown on this day
abbrev pub is_shown_on : ℕ → ℕ → ℕ → Placement → Bool
is_shown_on account campaign day p = p.account == account && (p.campaign == campaign && day_of p.shown == day)

-- whether the price is spent: a click settled it. A credit goes to the statement alone
abbrev pub is_spent : Fate → Bool
is_spent Open = false
is_spent (Settled at) = true
is_spent (Credited settled credited) = true

abbrev pub is_open : Fate → Bool
is_open Open = true
is_open (Settled at) = false
is_open (Credited settled credited) = false

-- whether the price of a placement is escrowed at this moment: it was not clicked, and the deadline is to come
abbrev pub is_escrowed : ℕ → Placement → Bool
is_escrowed moment p = is_open p.fate && nat_lt moment p.deadline

-- the prices that clicks settled, of the placements of the campaign that were shown on the day
unfoldable pub spent : State → ℕ → ℕ → ℕ → ℕ
spent S account campaign day =
    sum_by (λ p. p.price) (filter (λ p. is_shown_on account campaign day p && is_spent p.fate) S.tables.placements)

-- the prices that are kept for clicks that may still come
unfoldable pub escrowed : State → ℕ → ℕ → ℕ → ℕ
escrowed S account campaign day =
    sum_by (λ p. p.price)
    (filter (λ p. is_shown_on account campaign day p && is_escrowed S.moment p) S.tables.placements)

-- what is spent or escrowed
abbrev pub used : State → ℕ → ℕ → ℕ → ℕ
used S account campaign day = spent S account campaign day + escrowed S account campaign day

-- what is left of the budget, a number that could be negative
abbrev pub free : State → ℕ → ℕ → ℕ → ℤ
free S account campaign day =
    (pos (budget S account campaign day) -ℤ pos (spent S account campaign day)) -ℤ pos (escrowed S account campaign day)
