-- How each event moves the money of a campaign on a day.
use Rattle.std.proofs.Common.{◌≡◌, ℕ, ◌+◌, ◌*◌, ◌≤◌, Bool, true, false, ◌&&◌, ◌||◌, cond, ◌⊎◌, inl, inr, List, [], ◌∷◌, ◌++◌, filter, find, None, Some, option_map, unwrap_or, refl, sym, ap, subst, ◌∙◌, arith}
use Rattle.std.specs.Prelude.{nat_le, nat_lt}
use Rattle.std.specs.List.{sum_by}
use Rattle.std.specs.Option.{option_or}
use Rattle.std.proofs.Math.Nat.{div-mul-le_self}
use Rattle.std.proofs.lemmas.Nat.{le-div}
use Rattle.std.proofs.lemmas.Bool.{cases_Bool, cond-true, cond-false, both_ways}
use Rattle.std.proofs.lemmas.Bool.Decides.{nat_tests}
use Rattle.std.proofs.lemmas.List.Sums.{sum_by-cons}
use Rattle.desk_types.specs.declared.limits.TheConstants.{DAY_SECONDS}
use Rattle.desk_types.specs.declared.rows.BudgetSet.{BudgetSet}
use Rattle.desk_types.specs.declared.rows.Fate.{Fate}
use Rattle.desk_types.specs.declared.rows.Fate.TheVariants.{Open, Settled, Credited}
use Rattle.desk_types.specs.declared.rows.Placement.{Placement}
use Rattle.desk_types.specs.declared.tables.Change.{Change}
use Rattle.desk_types.specs.declared.tables.Change.TheVariants.{PutAccount, PutCampaign, PutBudget, PutLine, PutNegative, PutPlacement, PutBatch, PutFate}
use Rattle.desk_types.specs.Day.{day_of}
use Rattle.desk_types.specs.Keys.{budget_key, is_less_key, is_same_key, placement_key}
use Rattle.desk_types.specs.Money.{budget, escrowed, is_escrowed, is_open, is_set_by, is_shown_on, is_spent, spent}
use Rattle.desk_types.specs.MoneyMoves.{Amounts, CampaignAndDay, IsEscrowed, IsFreed, IsSettled, expiring, money, on_day, prices, with_budget}
use Rattle.desk_types.specs.State.{State}
use Rattle.desk_types.specs.Step.{at_moment}
use Rattle.desk_types.specs.Tables.{has_key, inserted, put, put_all, put_row, replaced}
use Rattle.desk_types.proofs.Budgets.{budget-last, budget-put, last_set, later_day}
use Rattle.desk_types.proofs.Costs.{sum_by-agree, sum_by-filter, sum_by-plus}
use Rattle.desk_types.proofs.EachRow.{Each}
use Rattle.desk_types.proofs.Lawful.{changed}
use Rattle.desk_types.proofs.Puts.{Each-put, FindsKey, Ordered, put_new, put_there, sum-put_there}

-- what a placement has of the spent money of a campaign on a day, and of the escrowed money
abbrev spent_part : CampaignAndDay → Placement → ℕ
spent_part on p = cond (is_shown_on on.account on.campaign on.day p && is_spent p.fate) p.price 0

abbrev held_part : CampaignAndDay → ℕ → Placement → ℕ
held_part on moment p = cond (is_shown_on on.account on.campaign on.day p && is_escrowed moment p) p.price 0

-- its price, where it is of the campaign and the day
abbrev price_part : CampaignAndDay → Placement → ℕ
price_part on p = cond (is_shown_on on.account on.campaign on.day p) p.price 0

spent-parts : (S : State) (on : CampaignAndDay) → spent S on.account on.campaign on.day ≡ sum_by (spent_part on) S.tables.placements
unfolding spent
spent-parts S on = sum_by-filter (λ p. is_shown_on on.account on.campaign on.day p && is_spent p.fate) (λ p. p.price) S.tables.placements

held-parts : (S : State) (on : CampaignAndDay) → escrowed S on.account on.campaign on.day ≡ sum_by (held_part on S.moment) S.tables.placements
unfolding escrowed
held-parts S on = sum_by-filter (λ p. is_shown_on on.account on.campaign on.day p && is_escrowed S.moment p) (λ p. p.price) S.tables.placements

price-parts : (on : CampaignAndDay) (ps : List Placement) → prices on ps ≡ sum_by (price_part on) ps
price-parts on ps = sum_by-filter (is_shown_on on.account on.campaign on.day) (λ p. p.price) ps

-- a price that is escrowed at the first moment is so at the second, or its deadline came between
held_or_freed : (shown unclicked : Bool) (first second deadline price : ℕ) → first ≤ second
    → cond (shown && (unclicked && nat_lt first deadline)) price 0
    ≡ cond (shown && (unclicked && nat_lt second deadline)) price 0 + cond ((unclicked && nat_lt first deadline) && nat_le deadline second) (cond shown price 0) 0
held_or_freed false unclicked first second deadline price low =
    elim ((unclicked && nat_lt first deadline) && nat_le deadline second) as (λ b. 0 ≡ 0 + cond b 0 0) [ true ↦ refl | false ↦ refl ]
held_or_freed true false first second deadline price low = refl
held_or_freed true true first second deadline price low =
    let e = nat_lt first deadline in
    let d = nat_le deadline second in
    elim (cases_Bool (nat_lt second deadline)) [
      | inl t ↦
          let early : e ≡ true = grind (arith, nat_tests, t, low) in
          let later : d ≡ false = grind (arith, nat_tests, t) in
          let left : cond e price 0 ≡ price = λ i. cond (early i) price 0 in
          let right : cond (nat_lt second deadline) price 0 + cond (e && d) price 0 ≡ price + 0 = λ i. cond (t i) price 0 + cond (early i && later i) price 0 in
          omega (arith, left, right)
      | inr t ↦
          let due : d ≡ true = grind (arith, nat_tests, t) in
          elim (cases_Bool e) [
            | inl k ↦
                let left : cond e price 0 ≡ price = λ i. cond (k i) price 0 in
                let right : cond (nat_lt second deadline) price 0 + cond (e && d) price 0 ≡ 0 + price = λ i. cond (t i) price 0 + cond (k i && due i) price 0 in
                omega (arith, left, right)
            | inr k ↦
                let left : cond e price 0 ≡ 0 = λ i. cond (k i) price 0 in
                let right : cond (nat_lt second deadline) price 0 + cond (e && d) price 0 ≡ 0 + 0 = λ i. cond (t i) price 0 + cond (k i && due i) price 0 in
                omega (arith, left, right)
          ]
    ]

-- as time passes
pub expired : (S : State) (moment : ℕ) (on : CampaignAndDay) → let S1 = at_moment S moment in IsFreed (prices on (expiring S S1.moment)) (money S on) (money S1 on)
unfolding budget spent
expired S moment on =
    let S1 : State = at_moment S moment in
    let ps = S.tables.placements in
    let due : Placement → Bool = λ p. is_escrowed S.moment p && nat_le p.deadline S1.moment in
    let freed : prices on (expiring S S1.moment) ≡ sum_by (λ p. cond (due p) (price_part on p) 0) ps =
    price-parts on (filter due ps) ∙ sum_by-filter due (price_part on) ps in
    let each = sum_by-agree (held_part on S.moment) (λ p. held_part on S1.moment p + cond (due p) (price_part on p) 0) ps (λ p.
    held_or_freed (is_shown_on on.account on.campaign on.day p) (is_open p.fate) S.moment S1.moment p.deadline p.price (omega arith)) in
    let both = sum_by-plus (held_part on S1.moment) (λ p. cond (due p) (price_part on p) 0) ps in
    record { budget = refl; spent = refl; escrowed = omega (arith, held-parts S on, held-parts S1 on, freed, each, both) }

-- what is open costs nothing yet, and is escrowed before its deadline
sum_by-append : {A : Type 0} (f : A → ℕ) (xs ys : List A) → sum_by f (xs ++ ys) ≡ sum_by f xs + sum_by f ys
sum_by-append f [] ys = omega arith
sum_by-append f (x ∷ xs) ys = omega (arith, sum_by-cons f x (xs ++ ys), sum_by-cons f x xs, sum_by-append f xs ys)

-- what holds of placements that are shown: they are open, and their deadline is to come
abbrev pub IsNew : ℕ → Placement → Type 0
IsNew moment p = (is_escrowed moment p ≡ true)

sum_by-each : {A : Type 0} (f g : A → ℕ) (xs : List A) → Each (λ x. f x ≡ g x) xs → sum_by f xs ≡ sum_by g xs
sum_by-each f g [] same = refl
sum_by-each f g (x ∷ xs) same = omega (arith, sum_by-cons f x xs, sum_by-cons g x xs, sum_by-each f g xs same.1, same.0)

not_spent : (shown before : Bool) (fate : Fate) (price : ℕ) → (is_open fate && before) ≡ true → cond (shown && is_spent fate) price 0 ≡ 0
not_spent true before Open price h = refl
not_spent false before fate price h = refl
not_spent true before (Settled at) price h = absurd cc
not_spent true before (Credited settled at) price h = absurd cc

held_all : (shown : Bool) (held : Bool) (price : ℕ) → held ≡ true → cond (shown && held) price 0 ≡ cond shown price 0
held_all true held price h = ap (λ b. cond b price 0) h
held_all false held price h = refl

new_spent : (on : CampaignAndDay) (moment : ℕ) (new : List Placement) → Each (IsNew moment) new → sum_by (spent_part on) new ≡ 0
new_spent on moment [] h = refl
new_spent on moment (p ∷ new) h =
    omega (arith, sum_by-cons (spent_part on) p new, new_spent on moment new h.1, not_spent (is_shown_on on.account on.campaign on.day p) (nat_lt moment p.deadline) p.fate p.price h.0)

new_held : (on : CampaignAndDay) (moment : ℕ) (new : List Placement) → Each (IsNew moment) new → sum_by (held_part on moment) new ≡ sum_by (price_part on) new
new_held on moment [] h = refl
new_held on moment (p ∷ new) h =
    omega (arith, sum_by-cons (held_part on moment) p new, sum_by-cons (price_part on) p new, new_held on moment new h.1, held_all (is_shown_on on.account on.campaign on.day p) (is_escrowed moment p) p.price h.0)

-- a search
pub shown : (S T : State) (new : List Placement) (on : CampaignAndDay) → T.moment ≡ S.moment → T.tables.budgets ≡ S.tables.budgets → T.tables.placements ≡ S.tables.placements ++ new → Each (IsNew S.moment) new
    → IsEscrowed (prices on new) (money S on) (money T on)
unfolding budget
shown S T new on moment budgets is fresh =
    let ps = S.tables.placements in
    let spent_now : spent T on.account on.campaign on.day ≡ sum_by (spent_part on) ps + sum_by (spent_part on) new =
    spent-parts T on ∙ ap (sum_by (spent_part on)) is ∙ sum_by-append (spent_part on) ps new in
    let held_now : escrowed T on.account on.campaign on.day ≡ sum_by (held_part on S.moment) ps + sum_by (held_part on S.moment) new =
    held-parts T on ∙ (λ i. sum_by (held_part on (moment i)) (is i)) ∙ sum_by-append (held_part on S.moment) ps new in
    record {
      budget = (λ i. budget (record S { tables = record S.tables { budgets = budgets i } }) on.account on.campaign on.day);
      spent = omega (arith, spent_now, new_spent on S.moment new fresh, spent-parts S on);
      escrowed = omega (arith, held_now, new_held on S.moment new fresh, held-parts S on, price-parts on new);
    }

-- a click
settled_parts : (shown before : Bool) (fate : Fate) (price : ℕ) → (is_open fate && before) ≡ true → (cond (shown && is_spent fate) price 0 ≡ 0) × (cond (shown && (is_open fate && before)) price 0 ≡ cond shown price 0)
settled_parts shown before fate price h = (not_spent shown before fate price h, held_all shown (is_open fate && before) price h)

spends_all : (shown : Bool) (price : ℕ) → cond (shown && true) price 0 ≡ cond shown price 0
spends_all true price = refl
spends_all false price = refl

holds_none : (shown : Bool) (price : ℕ) → cond (shown && false) price 0 ≡ 0
holds_none true price = refl
holds_none false price = refl

pub settled : (S T : State) (p : Placement) (at : ℕ) (test : Placement → Bool) (on : CampaignAndDay) → T.moment ≡ S.moment → T.tables.budgets ≡ S.tables.budgets
    → T.tables.placements ≡ put_row placement_key (record p { fate = Settled at }) S.tables.placements → FindsKey placement_key (placement_key p) test → find test S.tables.placements ≡ Some p
    → is_escrowed S.moment p ≡ true → IsSettled (prices on (p ∷ [])) (money S on) (money T on)
unfolding budget
settled S T p at test on moment budgets is finds found held =
    let q : Placement = record p { fate = Settled at } in
    let ps = S.tables.placements in
    let here = is_shown_on on.account on.campaign on.day p in
    let spent_moved = sum-put_there placement_key q p (spent_part on) test ps finds found in
    let held_moved = sum-put_there placement_key q p (held_part on S.moment) test ps finds found in
    let spent_now : spent T on.account on.campaign on.day ≡ sum_by (spent_part on) (put_row placement_key q ps) = spent-parts T on ∙ ap (sum_by (spent_part on)) is in
    let held_now : escrowed T on.account on.campaign on.day ≡ sum_by (held_part on S.moment) (put_row placement_key q ps) = held-parts T on ∙ (λ i. sum_by (held_part on (moment i)) (is i)) in
    let parts = settled_parts here (nat_lt S.moment p.deadline) p.fate p.price held in
    let price : prices on (p ∷ []) ≡ price_part on p + 0 = price-parts on (p ∷ []) ∙ sum_by-cons (price_part on) p [] in
    record {
      budget = (λ i. budget (record S { tables = record S.tables { budgets = budgets i } }) on.account on.campaign on.day);
      spent = omega (arith, spent_moved, spent_now, spent-parts S on, parts.0, spends_all here p.price, price);
      escrowed = omega (arith, held_moved, held_now, held-parts S on, parts.1, holds_none here p.price, price);
    }

-- a setting that is put is there
abbrev HasRow : List BudgetSet → BudgetSet → Type 0
HasRow [] x = ⊥
HasRow (y ∷ ys) x = (y ≡ x) ⊎ HasRow ys x

or_from : (a b : Bool) → (a || b) ≡ true → a ≡ false → b ≡ true
or_from false b h none = h
or_from true b h none = absurd cc

has_replaced : (row : BudgetSet) (rows : List BudgetSet) → has_key budget_key (budget_key row) rows ≡ true → HasRow (replaced budget_key row rows) row
has_replaced row [] there = absurd cc
has_replaced row (r ∷ rows) there =
    elim (cases_Bool (is_same_key (budget_key r) (budget_key row))) [
      | inl t ↦ subst (λ rs. HasRow rs row) (sym (cond-true _ (row ∷ rows) (r ∷ replaced budget_key row rows) t)) (inl refl)
      | inr t ↦ subst (λ rs. HasRow rs row) (sym (cond-false _ (row ∷ rows) (r ∷ replaced budget_key row rows) t)) (inr (has_replaced row rows (or_from _ _ there t)))
    ]

has_inserted : (row : BudgetSet) (rows : List BudgetSet) → HasRow (inserted budget_key row rows) row
has_inserted row [] = inl refl
has_inserted row (r ∷ rows) =
    elim (cases_Bool (is_less_key (budget_key row) (budget_key r))) [
      | inl t ↦ subst (λ rs. HasRow rs row) (sym (cond-true _ (row ∷ r ∷ rows) (r ∷ inserted budget_key row rows) t)) (inl refl)
      | inr t ↦ subst (λ rs. HasRow rs row) (sym (cond-false _ (row ∷ r ∷ rows) (r ∷ inserted budget_key row rows) t)) (inr (has_inserted row rows))
    ]

has_put : (row : BudgetSet) (rows : List BudgetSet) → HasRow (put_row budget_key row rows) row
has_put row rows =
    elim (cases_Bool (has_key budget_key (budget_key row) rows)) [
      | inl t ↦ subst (λ rs. HasRow rs row) (sym (put_there budget_key row rows t)) (has_replaced row rows t)
      | inr t ↦ subst (λ rs. HasRow rs row) (sym (put_new budget_key row rows t)) (has_inserted row rows)
    ]

-- a setting of a day that no other comes behind is the last one
last_none : (a c d : ℕ) (bs : List BudgetSet) → Each (λ b. is_set_by a c d b ≡ false) bs → last_set a c d bs ≡ None
last_none a c d [] h = refl
last_none a c d (b ∷ bs) h = cond-false _ _ (last_set a c d bs) h.0 ∙ last_none a c d bs h.1

none_behind : (a c d : ℕ) (new : BudgetSet) (bs : List BudgetSet) → Each (λ s. is_less_key (budget_key new) (budget_key s) ≡ true) bs → Each (λ s. nat_le (day_of s.at) (day_of new.at) ≡ true) bs
    → is_set_by a c d new ≡ true → Each (λ s. is_set_by a c d s ≡ false) bs
none_behind a c d new [] order days set = tt
none_behind a c d new (s ∷ bs) order days set = (
  elim (cases_Bool (is_set_by a c d s)) [
    | inl t ↦
        let later = later_day new.account new.campaign (day_of new.at) s.account s.campaign (day_of s.at) a c d order.0 set t in
        absurd (both_ways (nat_lt (day_of new.at) (day_of s.at)) (grind (arith, nat_tests, days.0)) later)
    | inr t ↦ t
  ],
  none_behind a c d new bs order.1 days.1 set,
)

keeps_last : (x : Bool) (b new : BudgetSet) → cond x (option_or (Some new) (Some b)) (Some new) ≡ Some new
keeps_last true b new = refl
keeps_last false b new = refl

last-latest : (a c d : ℕ) (new : BudgetSet) (bs : List BudgetSet) → Ordered budget_key bs → HasRow bs new → Each (λ s. nat_le (day_of s.at) (day_of new.at) ≡ true) bs → is_set_by a c d new ≡ true
    → last_set a c d bs ≡ Some new
last-latest a c d new [] order has days set = absurd (elim has [ ])
last-latest a c d new (b ∷ bs) order (inr has) days set =
    (λ i. cond (is_set_by a c d b) (option_or (last-latest a c d new bs order.1 has days.1 set i) (Some b)) (last-latest a c d new bs order.1 has days.1 set i)) ∙ keeps_last (is_set_by a c d b) b new
last-latest a c d new (b ∷ bs) order (inl is) days set =
    let behind = none_behind a c d new bs (subst (λ k. Each (λ s. is_less_key (budget_key k) (budget_key s) ≡ true) bs) is order.0) days.1 set in
    let none = last_none a c d bs behind in
    (λ i. cond (is_set_by a c d (is i)) (option_or (none i) (Some (is i))) (none i)) ∙ cond-true _ (Some new) None set

-- the budget where a setting is put that none comes behind
budget-set : (S T : State) (new : BudgetSet) (a c d : ℕ) → T.tables.budgets ≡ put_row budget_key new S.tables.budgets → Ordered budget_key S.tables.budgets → Ordered budget_key T.tables.budgets
    → Each (λ s. nat_le (day_of s.at) (day_of new.at) ≡ true) S.tables.budgets → budget T a c d ≡ cond (is_set_by a c d new) new.amount (budget S a c d)
budget-set S T new a c d is before after days =
    elim (cases_Bool (is_set_by a c d new)) [
      | inl t ↦
          let all = Each-put (λ s. nat_le (day_of s.at) (day_of new.at) ≡ true) budget_key new S.tables.budgets (grind (arith, nat_tests)) days in
          let last = last-latest a c d new (put_row budget_key new S.tables.budgets) (subst (Ordered budget_key) is after) (has_put new S.tables.budgets) all t in
          budget-last T a c d after ∙ ap (λ bs. unwrap_or (option_map (λ b. b.amount) (last_set a c d bs)) 0) is ∙ ap (λ o. unwrap_or (option_map (λ b. b.amount) o) 0) last
          ∙ sym (cond-true _ new.amount (budget S a c d) t)
      | inr t ↦
          elim (budget-put S T new a c d is before after) [
            | inl e ↦ e ∙ sym (cond-false _ new.amount (budget S a c d) t)
            | inr e ↦ absurd (both_ways _ t e.1)
          ]
    ]

-- the day of an earlier moment is no later one
pub day-le : (first second : ℕ) → first ≤ second → nat_le (day_of first) (day_of second) ≡ true
day-le first second low =
    let part : day_of first * DAY_SECONDS ≤ first = div-mul-le_self first DAY_SECONDS in
    let below : day_of first ≤ day_of second = le-div (day_of first) second DAY_SECONDS (omega arith) (omega (arith, part, low)) in
    grind (arith, nat_tests, below)

abbrev amounts : ℕ → ℕ → ℕ → Amounts
amounts b s e = record { budget = b; spent = s; escrowed = e }

chosen : (x : Bool) (amount b s e : ℕ) → amounts (cond x amount b) s e ≡ cond x (amounts amount s e) (amounts b s e)
chosen true amount b s e = refl
chosen false amount b s e = refl

-- a budget that is set
pub set : (S T : State) (new : BudgetSet) (on : CampaignAndDay) → T.moment ≡ S.moment → T.tables.placements ≡ S.tables.placements → T.tables.budgets ≡ put_row budget_key new S.tables.budgets
    → Ordered budget_key S.tables.budgets → Ordered budget_key T.tables.budgets → Each (λ s. nat_le (day_of s.at) (day_of new.at) ≡ true) S.tables.budgets
    → money T on ≡ with_budget (on_day new.account new.campaign (day_of new.at)) new.amount on (money S on)
set S T new on moment placements is before after days =
    let spent_is : spent T on.account on.campaign on.day ≡ spent S on.account on.campaign on.day = spent-parts T on ∙ ap (sum_by (spent_part on)) placements ∙ sym (spent-parts S on) in
    let held_is : escrowed T on.account on.campaign on.day ≡ escrowed S on.account on.campaign on.day =
    held-parts T on ∙ (λ i. sum_by (held_part on (moment i)) (placements i)) ∙ sym (held-parts S on) in
    let budget_is = budget-set S T new on.account on.campaign on.day is before after days in
    (λ i. amounts (budget_is i) (spent_is i) (held_is i))
    ∙ chosen (is_set_by on.account on.campaign on.day new) new.amount (budget S on.account on.campaign on.day) (spent S on.account on.campaign on.day) (escrowed S on.account on.campaign on.day)

-- changes that move no money
abbrev pub IsQuiet : Change → Type 0
IsQuiet (PutAccount a) = Unit {0}
IsQuiet (PutCampaign c) = Unit {0}
IsQuiet (PutBudget b) = ⊥
IsQuiet (PutLine l) = Unit {0}
IsQuiet (PutNegative n) = Unit {0}
IsQuiet (PutPlacement p) = ⊥
IsQuiet (PutBatch b) = Unit {0}
IsQuiet (PutFate number fate) = ⊥

pub quiet : (S : State) (change : Change) (on : CampaignAndDay) → IsQuiet change → money (changed S change) on ≡ money S on
unfolding put budget spent escrowed
quiet S (PutAccount a) on h = refl
quiet S (PutCampaign c) on h = refl
quiet S (PutBudget b) on h = absurd (elim h [ ])
quiet S (PutLine l) on h = refl
quiet S (PutNegative n) on h = refl
quiet S (PutPlacement p) on h = absurd (elim h [ ])
quiet S (PutBatch b) on h = refl
quiet S (PutFate number fate) on h = absurd (elim h [ ])

pub all_quiet : (S : State) (changes : List Change) (on : CampaignAndDay) → Each IsQuiet changes → money (record S { tables = put_all S.tables changes }) on ≡ money S on
unfolding put_all
all_quiet S [] on h = refl
all_quiet S (c ∷ cs) on h = all_quiet (changed S c) cs on h.1 ∙ quiet S c on h.0

-- a click that is credited stays spent
pub credited : (S T : State) (p : Placement) (settled at : ℕ) (test : Placement → Bool) (on : CampaignAndDay) → T.moment ≡ S.moment → T.tables.budgets ≡ S.tables.budgets
    → T.tables.placements ≡ put_row placement_key (record p { fate = Credited settled at }) S.tables.placements → FindsKey placement_key (placement_key p) test → find test S.tables.placements ≡ Some p
    → p.fate ≡ Settled settled → money T on ≡ money S on
unfolding budget
credited S T p settled at test on moment budgets is finds found was =
    let q : Placement = record p { fate = Credited settled at } in
    let ps = S.tables.placements in
    let here = is_shown_on on.account on.campaign on.day p in
    let spent_moved = sum-put_there placement_key q p (spent_part on) test ps finds found in
    let held_moved = sum-put_there placement_key q p (held_part on S.moment) test ps finds found in
    let spent_now : spent T on.account on.campaign on.day ≡ sum_by (spent_part on) (put_row placement_key q ps) = spent-parts T on ∙ ap (sum_by (spent_part on)) is in
    let held_now : escrowed T on.account on.campaign on.day ≡ sum_by (held_part on S.moment) (put_row placement_key q ps) = held-parts T on ∙ (λ i. sum_by (held_part on (moment i)) (is i)) in
    let spent_same : spent_part on q ≡ spent_part on p = (λ i. cond (here && is_spent (sym was i)) p.price 0) in
    let held_same : held_part on S.moment q ≡ held_part on S.moment p = (λ i. cond (here && (is_open (sym was i) && nat_lt S.moment p.deadline)) p.price 0) in
    let spent_is : spent T on.account on.campaign on.day ≡ spent S on.account on.campaign on.day = omega (arith, spent_moved, spent_now, spent-parts S on, spent_same) in
    let held_is : escrowed T on.account on.campaign on.day ≡ escrowed S on.account on.campaign on.day = omega (arith, held_moved, held_now, held-parts S on, held_same) in
    let budget_is : budget T on.account on.campaign on.day ≡ budget S on.account on.campaign on.day = (λ i. budget (record S { tables = record S.tables { budgets = budgets i } }) on.account on.campaign on.day) in
    (λ i. amounts (budget_is i) (spent_is i) (held_is i))
