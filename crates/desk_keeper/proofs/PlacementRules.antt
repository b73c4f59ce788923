-- The rules of placements: the line that one names, and what those that keep the rules are charged.
use Rattle.std.proofs.Common.{◌≡◌, ℕ, ◌<◌, ◌≤◌, Bool, true, false, ◌==◌, ◌&&◌, ◌||◌, inl, inr, List, [], ◌∷◌, ◌++◌, find, Option, None, Some, option_map, unwrap_or, refl, sym, ap, ◌∙◌, arith}
use Rattle.std.specs.Prelude.{nat_le}
use Rattle.std.specs.List.{list_any}
use Rattle.std.proofs.lemmas.Bool.{and_parts, cases_Bool, cond-true, cond-false}
use Rattle.std.proofs.lemmas.Bool.Decides.{nat_tests}
use Rattle.auction_types.specs.declared.limits.TheConstants.{BID_MIN, BID_MAX, PLACES_MAX}
use Rattle.desk_types.specs.declared.limits.TheConstants.{BUDGET_MAX, BUDGET_MIN, MOMENT_MAX}
use Rattle.desk_types.specs.declared.rows.BudgetSet.{BudgetSet}
use Rattle.desk_types.specs.declared.rows.Line.{Line}
use Rattle.desk_types.specs.declared.rows.Placement.{Placement}
use Rattle.desk_types.specs.declared.tables.Tables.{Tables}
use Rattle.desk_types.specs.Day.{day_of}
use Rattle.desk_types.specs.Judged.{is_within}
use Rattle.desk_types.specs.Keys.{budget_key, is_less_key, line_key}
use Rattle.desk_types.specs.Money.{budget_in, is_latest, is_set_by, is_shown_on}
use Rattle.desk_types.specs.Opening.{latest}
use Rattle.desk_types.specs.Rules.{Rule, budget_rules, first_bad, first_broken, is_good_fate, is_in_order, is_paid_for, placement_rules, rule}
use Rattle.desk_types.specs.Sound.{AreInOrder}
use Rattle.desk_types.proofs.EachRow.{Each, Each-append}
use Rattle.desk_types.proofs.InOrder.{Ordered-from}
use Rattle.desk_types.proofs.Puts.{Ordered}
use Rattle.desk_keeper.specs.DayTotals.{charged}
use Rattle.desk_keeper.specs.PlacementChecks.{rules_but_budget}
use Rattle.desk_keeper.proofs.DayCharges.{charged_other, same_day}
use Rattle.desk_keeper.proofs.FirstBad.{kept_rows}
use Rattle.desk_keeper.proofs.KeptTables.{AreAllKept, all_kept, in_order_kept}
use Rattle.desk_keeper.proofs.OwnRows.{at_most}

-- two of three tests
third_of : (x y z : Bool) → (x && y) ≡ true → (x && (y && z)) ≡ z
third_of true true z h = refl
third_of true false z h = absurd cc
third_of false y z h = absurd cc

none_of_three : (x y z : Bool) → (x && y) ≡ false → (x && (y && z)) ≡ false
none_of_three true true z h = absurd cc
none_of_three true false z h = refl
none_of_three false y z h = refl

-- the rows behind the wanted one are others
others_behind : (x n y m a k : ℕ) → is_less_key (x ∷ n ∷ []) (y ∷ m ∷ []) ≡ true → (x == a && n == k) ≡ true → (y == a && m == k) ≡ false
others_behind x n y m a k h t = grind (arith, nat_tests)

module _ (account number campaign : ℕ) where
  abbrev is_wanted : Line → Bool
  is_wanted l = l.account == account && l.number == number

  abbrev is_named : Line → Bool
  is_named l = l.account == account && (l.number == number && l.campaign == campaign)

  named_wanted : (l : Line) → is_wanted l ≡ true → is_named l ≡ (l.campaign == campaign)
  named_wanted l t = third_of (l.account == account) (l.number == number) (l.campaign == campaign) t

  named_other : (l : Line) → is_wanted l ≡ false → is_named l ≡ false
  named_other l t = none_of_three (l.account == account) (l.number == number) (l.campaign == campaign) t

  none_behind : (row : Line) (rows : List Line) → Each (λ s. is_less_key (line_key row) (line_key s) ≡ true) rows → is_wanted row ≡ true → list_any is_named rows ≡ false
  none_behind row [] h t = refl
  none_behind row (s ∷ rows) h t =
      ap (λ b. b || list_any is_named rows) (named_other s (others_behind row.account row.number s.account s.number account number h.0 t)) ∙ none_behind row rows h.1 t

  or_false : (b c : Bool) → c ≡ false → (b || c) ≡ b
  or_false true c h = refl
  or_false false c h = h

  some_same : (x y : Line) → Some x ≡ Some y → x ≡ y
  some_same x y h = cc

  some_none : (x : Line) → Some x ≡ None → ⊥
  some_none x h = cc

  found_named : (rows : List Line) (line : Line) → Ordered line_key rows → find is_wanted rows ≡ Some line → list_any is_named rows ≡ (line.campaign == campaign)
  found_named [] line order is = absurd (some_none line (sym is))
  found_named (r ∷ rows) line order is =
      elim (cases_Bool (is_wanted r)) [
        | inl t ↦
            let here : r ≡ line = some_same r line (sym (cond-true (is_wanted r) (Some r) (find is_wanted rows) t) ∙ is) in
            or_false (is_named r) (list_any is_named rows) (none_behind r rows order.0 t) ∙ named_wanted r t ∙ ap (λ (l : Line). l.campaign == campaign) here
        | inr t ↦
            ap (λ b. b || list_any is_named rows) (named_other r t)
            ∙ found_named rows line order.1 (sym (cond-false (is_wanted r) (Some r) (find is_wanted rows) t) ∙ is)
      ]

  -- the line is there: it is the one that is named where it is of the campaign
  pub line_there : (rows : List Line) (line : Line) → AreInOrder line_key rows → find is_wanted rows ≡ Some line → list_any is_named rows ≡ (line.campaign == campaign)
  line_there rows line order is = found_named rows line (Ordered-from line_key rows order) is

  -- the line is not there
  pub line_missing : (rows : List Line) → find is_wanted rows ≡ None → list_any is_named rows ≡ false
  line_missing [] is = refl
  line_missing (r ∷ rows) is =
      elim (cases_Bool (is_wanted r)) [
        | inl t ↦ absurd (some_none r (sym (cond-true (is_wanted r) (Some r) (find is_wanted rows) t) ∙ is))
        | inr t ↦
            ap (λ b. b || list_any is_named rows) (named_other r t)
            ∙ line_missing rows (sym (cond-false (is_wanted r) (Some r) (find is_wanted rows) t) ∙ is)
      ]

-- the rules of a placement are those but for its budget, and that one
broken_more : (rules more : List Rule) (n : ℕ) → first_broken rules ≡ Some n → first_broken (rules ++ more) ≡ Some n
broken_more [] more n is = absurd (none_some n is)
  where
    none_some : (n : ℕ) → None ≡ Some n → ⊥
    none_some n h = cc
broken_more (r ∷ rules) more n is =
    elim (cases_Bool r.is_kept) [
      | inl t ↦
          cond-true r.is_kept (first_broken (rules ++ more)) (Some r.number) t
          ∙ broken_more rules more n (sym (cond-true r.is_kept (first_broken rules) (Some r.number) t) ∙ is)
      | inr t ↦
          cond-false r.is_kept (first_broken (rules ++ more)) (Some r.number) t ∙ sym (cond-false r.is_kept (first_broken rules) (Some r.number) t) ∙ is
    ]

broken_behind : (rules more : List Rule) → AreAllKept rules → first_broken (rules ++ more) ≡ first_broken more
broken_behind [] more kept = refl
broken_behind (r ∷ rules) more kept = cond-true r.is_kept (first_broken (rules ++ more)) (Some r.number) kept.0 ∙ broken_behind rules more kept.1

abbrev budget_rule : Tables → List Placement → Placement → List Rule
budget_rule T before row = rule 9 (is_paid_for T before row) ∷ []

pub breaks_first : (T : Tables) (before : List Placement) (row : Placement) (n : ℕ) → first_broken (rules_but_budget T before row) ≡ Some n → first_broken (placement_rules T before row) ≡ Some n
unfolding placement_rules rules_but_budget
breaks_first T before row n is = broken_more (rules_but_budget T before row) (budget_rule T before row) n is

pub breaks_budget : (T : Tables) (before : List Placement) (row : Placement) → first_broken (rules_but_budget T before row) ≡ None → is_paid_for T before row ≡ false
    → first_broken (placement_rules T before row) ≡ Some 9
unfolding placement_rules rules_but_budget
breaks_budget T before row kept t =
    broken_behind (rules_but_budget T before row) (budget_rule T before row) (all_kept (rules_but_budget T before row) kept)
    ∙ cond-false (is_paid_for T before row) None (Some 9) t

pub breaks_none : (T : Tables) (before : List Placement) (row : Placement) → first_broken (rules_but_budget T before row) ≡ None → is_paid_for T before row ≡ true
    → first_broken (placement_rules T before row) ≡ None
unfolding placement_rules rules_but_budget
breaks_none T before row kept t =
    broken_behind (rules_but_budget T before row) (budget_rule T before row) (all_kept (rules_but_budget T before row) kept)
    ∙ cond-true (is_paid_for T before row) None (Some 9) t

-- the budgets are in order, and within their range
budget_first : (T : Tables) (before : List BudgetSet) (row : BudgetSet) → first_broken (budget_rules T before row) ≡ None → is_in_order budget_key before row ≡ true
unfolding budget_rules
budget_first T before row h = (all_kept (budget_rules T before row) h).0

within_range : (low high n : ℕ) → is_within low high n ≡ true → n ≤ high
within_range low high n h = grind (arith, nat_tests)

budget_within : (T : Tables) (before : List BudgetSet) (row : BudgetSet) → first_broken (budget_rules T before row) ≡ None → row.amount ≤ BUDGET_MAX
unfolding budget_rules
budget_within T before row h =
    within_range BUDGET_MIN BUDGET_MAX row.amount (and_parts (is_within BUDGET_MIN BUDGET_MAX row.amount) (nat_le row.at MOMENT_MAX) (all_kept (budget_rules T before row) h).1.0).0

pub budgets_in_order : (T : Tables) (rows : List BudgetSet) → first_bad 3 (budget_rules T) [] rows ≡ None → AreInOrder budget_key rows
budgets_in_order T rows kept = in_order_kept 3 (budget_rules T) budget_key (budget_first T) rows kept

budgets_within : (T : Tables) (rows : List BudgetSet) → first_bad 3 (budget_rules T) [] rows ≡ None → Each (λ b. b.amount ≤ BUDGET_MAX) rows
budgets_within T rows kept =
    kept_rows (Each (λ b. b.amount ≤ BUDGET_MAX)) 3 (budget_rules T) (λ before row h k. Each-append (λ b. b.amount ≤ BUDGET_MAX) before (row ∷ []) h (budget_within T before row k, tt)) [] rows tt kept

found_within : (test : BudgetSet → Bool) (rows : List BudgetSet) → Each (λ b. b.amount ≤ BUDGET_MAX) rows → unwrap_or (option_map (λ b. b.amount) (find test rows)) 0 ≤ BUDGET_MAX
found_within test [] h = omega arith
found_within test (r ∷ rows) h =
    let amount : Option BudgetSet → ℕ = λ found. unwrap_or (option_map (λ b. b.amount) found) 0 in
    elim (cases_Bool (test r)) [
      | inl t ↦ omega (arith, ap amount (cond-true (test r) (Some r) (find test rows) t), h.0)
      | inr t ↦ omega (arith, ap amount (cond-false (test r) (Some r) (find test rows) t), found_within test rows h.1)
    ]

budget_below : (T : Tables) (account campaign day : ℕ) → first_bad 3 (budget_rules T) [] T.budgets ≡ None → budget_in T.budgets account campaign day ≤ BUDGET_MAX
budget_below T account campaign day kept =
    found_within (λ b. is_set_by account campaign day b && is_latest T.budgets account campaign day b) T.budgets (budgets_within T T.budgets kept)

-- what placements that keep the rules are charged is within the budgets' range
paid_for : (T : Tables) (before : List Placement) (row : Placement) → first_broken (placement_rules T before row) ≡ None → is_paid_for T before row ≡ true
unfolding placement_rules
paid_for T before row h = (all_kept (placement_rules T before row) h).1.1.1.1.1.0

within_more : (T : Tables) (before : List Placement) (row : Placement) → first_bad 3 (budget_rules T) [] T.budgets ≡ None → ((a c d : ℕ) → charged a c d (latest T) before ≤ BUDGET_MAX)
    → first_broken (placement_rules T before row) ≡ None → (a c d : ℕ) → charged a c d (latest T) (before ++ row ∷ []) ≤ BUDGET_MAX
within_more T before row budgets h kept a c d =
    elim (cases_Bool (is_shown_on a c d row)) [
      | inl t ↦
          let same = same_day row.account row.campaign (day_of row.shown) a c d t in
          let all = before ++ row ∷ [] in
          let paid : charged row.account row.campaign (day_of row.shown) (latest T) all ≤ budget_in T.budgets row.account row.campaign (day_of row.shown) =
          at_most (charged row.account row.campaign (day_of row.shown) (latest T) all) (budget_in T.budgets row.account row.campaign (day_of row.shown)) (paid_for T before row kept) in
          let here : charged row.account row.campaign (day_of row.shown) (latest T) all ≡ charged a c d (latest T) all = (λ i. charged (same.0 i) (same.1 i) (same.2 i) (latest T) all) in
          omega (arith, paid, here, budget_below T row.account row.campaign (day_of row.shown) budgets)
      | inr t ↦ omega (arith, h a c d, charged_other a c d (latest T) before row t)
    ]

pub charged_within : (T : Tables) (rows : List Placement) → first_bad 3 (budget_rules T) [] T.budgets ≡ None → first_bad 6 (placement_rules T) [] rows ≡ None
    → (a c d : ℕ) → charged a c d (latest T) rows ≤ BUDGET_MAX
charged_within T rows budgets kept =
    kept_rows (λ l. (a c d : ℕ) → charged a c d (latest T) l ≤ BUDGET_MAX) 6 (placement_rules T) (λ before row h k. within_more T before row budgets h k) [] rows (λ a c d. omega arith) kept

-- a price that keeps the rules is within the bids' range
pub price_within : (T : Tables) (before : List Placement) (row : Placement) → first_broken (rules_but_budget T before row) ≡ None → row.price ≤ BID_MAX
unfolding rules_but_budget
price_within T before row kept =
    let good = (all_kept (rules_but_budget T before row) kept).1.0 in
    let bid = and_parts (is_within 1 PLACES_MAX row.place) (is_within BID_MIN BID_MAX row.bid && (is_within 1 row.bid row.price && (nat_le row.shown MOMENT_MAX && is_good_fate row.fate))) good in
    let price = and_parts (is_within BID_MIN BID_MAX row.bid) (is_within 1 row.bid row.price && (nat_le row.shown MOMENT_MAX && is_good_fate row.fate)) bid.1 in
    let rest = and_parts (is_within 1 row.bid row.price) (nat_le row.shown MOMENT_MAX && is_good_fate row.fate) price.1 in
    omega (arith, within_range BID_MIN BID_MAX row.bid price.0, within_range 1 row.bid row.price rest.0)

-- whether the budget of a placement covers what its campaign is charged
above_fails : (low high : ℕ) → high < low → nat_le low high ≡ false
above_fails low high h = grind (arith, nat_tests)

below_holds : (low high : ℕ) → low ≤ high → nat_le low high ≡ true
below_holds low high h = grind (arith, nat_tests)

pub not_paid : (T : Tables) (before : List Placement) (row : Placement) (total amount : ℕ) → total ≡ charged row.account row.campaign (day_of row.shown) (latest T) (before ++ row ∷ [])
    → amount ≡ budget_in T.budgets row.account row.campaign (day_of row.shown) → amount < total → is_paid_for T before row ≡ false
not_paid T before row total amount all has over =
    above_fails (charged row.account row.campaign (day_of row.shown) (latest T) (before ++ row ∷ [])) (budget_in T.budgets row.account row.campaign (day_of row.shown)) (omega (arith, all, has, over))

pub is_paid : (T : Tables) (before : List Placement) (row : Placement) (total amount : ℕ) → total ≡ charged row.account row.campaign (day_of row.shown) (latest T) (before ++ row ∷ [])
    → amount ≡ budget_in T.budgets row.account row.campaign (day_of row.shown) → total ≤ amount → is_paid_for T before row ≡ true
is_paid T before row total amount all has within =
    below_holds (charged row.account row.campaign (day_of row.shown) (latest T) (before ++ row ∷ [])) (budget_in T.budgets row.account row.campaign (day_of row.shown))
    (omega (arith, all, has, within))
