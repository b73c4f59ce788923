-- Each placement is paid for by its day's budget, as it comes, where the budgets cover what is used on their days.
use Rattle.std.proofs.Common.{◌≡◌, ℕ, ◌+◌, ◌≤◌, Bool, true, false, ◌==◌, ◌&&◌, ◌||◌, cond, inl, inr, List, [], ◌∷◌, ◌++◌, subst, ◌∙◌, arith}
use Rattle.std.specs.Prelude.{nat_le, nat_lt}
use Rattle.std.specs.List.{sum_by}
use Rattle.std.proofs.lemmas.Bool.{and_parts, cases_Bool, eqb-true}
use Rattle.std.proofs.lemmas.Bool.Decides.{nat_tests}
use Rattle.std.proofs.lemmas.List.Sums.{sum_by-cons, sum_by_push}
use Rattle.desk_types.specs.declared.rows.Fate.{Fate}
use Rattle.desk_types.specs.declared.rows.Fate.TheVariants.{Open, Settled, Credited}
use Rattle.desk_types.specs.declared.rows.Placement.{Placement}
use Rattle.desk_types.specs.declared.tables.Tables.{Tables}
use Rattle.desk_types.specs.Day.{day_of}
use Rattle.desk_types.specs.Money.{budget, budget_in, escrowed, is_open, is_shown_on, is_spent, spent}
use Rattle.desk_types.specs.Opening.{latest, opened}
use Rattle.desk_types.specs.Rules.{charged_by, is_charged, is_paid_for}
use Rattle.desk_types.specs.SettingsValue.{SettingsValue}
use Rattle.desk_types.specs.Sound.{StaysWithinBudgets}
use Rattle.desk_types.proofs.Behind.{Behind}
use Rattle.desk_types.proofs.Costs.{cost, cost-other, free-holds, free-within, sum_by-agree, sum_by-filter, used-costs}

-- what is charged for a placement is what it costs
charge : (shown : Bool) (fate : Fate) (held : Bool) (price : ℕ)
    → cond (shown && (is_spent fate || (is_open fate && held))) price 0 ≡ cond (shown && is_spent fate) price 0 + cond (shown && (is_open fate && held)) price 0
charge false fate held price = omega arith
charge true Open true price = omega arith
charge true Open false price = omega arith
charge true (Settled at) held price = omega arith
charge true (Credited settled at) held price = omega arith

-- what these placements cost the campaign on the day, at the last moment that the rows tell
abbrev costs : Tables → ℕ → ℕ → ℕ → List Placement → ℕ
costs T a c d rows = sum_by (cost a c d (latest T)) rows

charged-costs : (T : Tables) (p : Placement) (rows : List Placement) → charged_by T p rows ≡ costs T p.account p.campaign (day_of p.shown) rows
charged-costs T p rows =
    let charged = is_charged p.account p.campaign (day_of p.shown) (latest T) in
    sum_by-filter charged (λ q. q.price) rows
    ∙ sum_by-agree (λ q. cond (charged q) q.price 0) (cost p.account p.campaign (day_of p.shown) (latest T)) rows
    (λ q. charge (is_shown_on p.account p.campaign (day_of p.shown) q) q.fate (nat_lt (latest T) q.deadline) q.price)

-- the budget covers what these placements cost
abbrev Covers : Tables → ℕ → ℕ → ℕ → List Placement → Type 0
Covers T a c d rows = costs T a c d rows ≤ budget_in T.budgets a c d

covered : (low high : ℕ) → nat_le low high ≡ true → low ≤ high
covered low high h = grind (arith, nat_tests)

covers : (low high : ℕ) → low ≤ high → nat_le low high ≡ true
covers low high h = grind (arith, nat_tests)

abbrev pub IsPaidFor : Tables → List Placement → Placement → Type 0
IsPaidFor T before p = is_paid_for T before p ≡ true

-- what is shown for the campaign on the day
same_day : (pa pc pd a c d : ℕ) → (pa == a && (pc == c && pd == d)) ≡ true → (pa ≡ a) × (pc ≡ c) × (pd ≡ d)
same_day pa pc pd a c d h =
    let first = and_parts (pa == a) (pc == c && pd == d) h in
    let rest = and_parts (pc == c) (pd == d) first.1 in
    (eqb-true pa a first.0, eqb-true pc c rest.0, eqb-true pd d rest.1)

covers_next : (T : Tables) (a c d : ℕ) (before : List Placement) (p : Placement) → IsPaidFor T before p → Covers T a c d before → Covers T a c d (before ++ p ∷ [])
covers_next T a c d before p paid h =
    elim (cases_Bool (is_shown_on a c d p)) [
      | inl t ↦
          let parts = same_day p.account p.campaign (day_of p.shown) a c d t in
          let all = before ++ p ∷ [] in
          let own : Covers T p.account p.campaign (day_of p.shown) all =
          subst (λ n. n ≤ budget_in T.budgets p.account p.campaign (day_of p.shown)) (charged-costs T p all) (covered (charged_by T p all) (budget_in T.budgets p.account p.campaign (day_of p.shown)) paid) in
          subst (λ n. Covers T n c d all) parts.0 (subst (λ n. Covers T p.account n d all) parts.1 (subst (λ n. Covers T p.account p.campaign n all) parts.2 own))
      | inr t ↦ omega (arith, h, sum_by_push (cost a c d (latest T)) before p, cost-other a c d (latest T) p t)
    ]

covers_all : (T : Tables) (a c d : ℕ) (before rows : List Placement) → Behind (IsPaidFor T) before rows → Covers T a c d before
    → costs T a c d before + costs T a c d rows ≤ budget_in T.budgets a c d
covers_all T a c d before [] h fits = omega (arith, fits)
covers_all T a c d before (p ∷ rows) h fits =
    omega (arith, covers_all T a c d (before ++ p ∷ []) rows h.1 (covers_next T a c d before p h.0 fits), sum_by_push (cost a c d (latest T)) before p, sum_by-cons (cost a c d (latest T)) p rows)

pub within_if_paid : (settings : SettingsValue) (T : Tables) → Behind (IsPaidFor T) [] T.placements → StaysWithinBudgets (opened settings T)
unfolding budget
within_if_paid settings T h =
    let S = opened settings T in
    λ a c d. free-holds (budget S a c d) (spent S a c d) (escrowed S a c d) (omega (arith, used-costs S a c d, covers_all T a c d [] T.placements h (omega arith)))

paid_behind : (T : Tables) (before rows : List Placement) → ((a c d : ℕ) → costs T a c d before + costs T a c d rows ≤ budget_in T.budgets a c d) → Behind (IsPaidFor T) before rows
paid_behind T before [] h = tt
paid_behind T before (p ∷ rows) h =
    let all = before ++ p ∷ [] in
    let a = p.account in
    let c = p.campaign in
    let d = day_of p.shown in
    let fits : charged_by T p all ≤ budget_in T.budgets a c d =
    omega (arith, charged-costs T p all, sum_by_push (cost a c d (latest T)) before p, sum_by-cons (cost a c d (latest T)) p rows, h a c d) in (
      covers (charged_by T p all) (budget_in T.budgets a c d) fits,
      paid_behind T all rows (λ x y z. omega (arith, h x y z, sum_by_push (cost x y z (latest T)) before p, sum_by-cons (cost x y z (latest T)) p rows)),
    )

pub paid_if_within : (settings : SettingsValue) (T : Tables) → StaysWithinBudgets (opened settings T) → Behind (IsPaidFor T) [] T.placements
unfolding budget
paid_if_within settings T h =
    let S = opened settings T in
    paid_behind T [] T.placements (λ a c d. omega (arith, used-costs S a c d, free-within (budget S a c d) (spent S a c d) (escrowed S a c d) (h a c d)))
