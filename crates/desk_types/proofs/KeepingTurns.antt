-- Placements stay in turn, the moments that the rows tell stay past, and budgets hold at the last of them, change by change.
use Rattle.std.proofs.Common.{◌≡◌, ℕ, ◌+◌, ◌≤◌, true, ◌==◌, ◌&&◌, ◌||◌, inl, inr, List, [], ◌∷◌, map, Option, None, Some, refl, ap, subst, sym, ◌∙◌, arith}
use Rattle.std.specs.Prelude.{nat_le, nat_lt}
use Rattle.std.specs.List.{list_any}
use Rattle.std.proofs.lemmas.Bool.{cases_Bool, and_parts, and_from}
use Rattle.std.proofs.lemmas.Bool.Decides.{nat_tests}
use Rattle.desk_types.specs.declared.limits.TheConstants.{CLICK_WINDOW, MOMENT_MAX}
use Rattle.desk_types.specs.declared.rows.BudgetSet.{BudgetSet}
use Rattle.desk_types.specs.declared.rows.Fate.{Fate}
use Rattle.desk_types.specs.declared.rows.Fate.TheVariants.{Open, Settled, Credited}
use Rattle.desk_types.specs.declared.rows.Placement.{Placement}
use Rattle.desk_types.specs.declared.tables.Change.{Change}
use Rattle.desk_types.specs.declared.tables.Change.TheVariants.{PutBudget, PutPlacement, PutFate}
use Rattle.desk_types.specs.declared.tables.Tables.{Tables}
use Rattle.desk_types.specs.Keys.{budget_key, is_same_key, placement_key}
use Rattle.desk_types.specs.Money.{budget, escrowed, is_open, spent}
use Rattle.desk_types.specs.Opening.{fate_moment, greatest, latest, opened, placement_moment}
use Rattle.desk_types.specs.Rules.{is_good_fate, is_in_window}
use Rattle.desk_types.specs.SettingsValue.{SettingsValue}
use Rattle.desk_types.specs.Sound.{StaysWithinBudgets}
use Rattle.desk_types.specs.State.{State}
use Rattle.desk_types.specs.Tables.{placement_of, put, put_fate, put_row}
use Rattle.desk_types.proofs.EachRow.{Each-mono}
use Rattle.desk_types.proofs.InOrder.{Each-from_All, Ordered-from}
use Rattle.desk_types.proofs.KeepingFields.{HasGoodFate, IsGoodFate}
use Rattle.desk_types.proofs.KeepingProper.{IsOfNow, IsProper, IsProperPlacement}
use Rattle.desk_types.proofs.KeepingRows.{AllPairs-from, Pairs, Pairs-from, Pairs-last, Pairs-put, StandsFor, any-put_row, only}
use Rattle.desk_types.proofs.KeepingStable.{each_up_to, placements_past, up_to_each}
use Rattle.desk_types.proofs.Kept.{AreInTurn, IsAlmostKept}
use Rattle.desk_types.proofs.Lawful.{All-put, GoesOnward, IsLawful, IsOnward, IsPayable, changed, found_all, found_has}
use Rattle.desk_types.proofs.Numbering.{next_last}
use Rattle.desk_types.proofs.Puts.{Each-put}

-- the moments of a fate that a placement gets are past, and its click is in the window
fate_past : (moment : ℕ) (p : Placement) (fate : Fate) → placement_moment p ≤ moment → GoesOnward moment p fate → IsOfNow moment fate → fate_moment fate ≤ moment
fate_past moment p Open past onward now = absurd (elim onward [ ])
fate_past moment p (Settled at) past onward now = omega (arith, now)
fate_past moment p (Credited settled at) past onward now =
    let before : fate_moment p.fate ≡ settled = ap fate_moment onward in
    omega (arith, now, past, before)

fate_good : (moment : ℕ) (p : Placement) (fate : Fate) → placement_moment p ≤ moment → moment ≤ MOMENT_MAX → GoesOnward moment p fate → IsOfNow moment fate → is_good_fate fate ≡ true
fate_good moment p Open past up_to onward now = refl
fate_good moment p (Settled at) past up_to onward now = grind (arith, nat_tests, now, up_to)
fate_good moment p (Credited settled at) past up_to onward now =
    let before : fate_moment p.fate ≡ settled = ap fate_moment onward in
    let low : settled ≤ moment = omega (arith, past, before) in
    grind (arith, nat_tests, now, up_to, low)

fate_in_window : (moment : ℕ) (p : Placement) (fate : Fate) → placement_moment p ≤ moment → is_in_window p p.fate ≡ true → GoesOnward moment p fate → IsOfNow moment fate → is_in_window p fate ≡ true
fate_in_window moment p Open past before onward now = refl
fate_in_window moment p (Settled at) past before onward now =
    let held = (and_parts (is_open p.fate) (nat_lt moment p.deadline) onward).1 in
    let shown : p.shown ≤ moment = omega (arith, past) in
    grind (arith, nat_tests, now, held, shown)
fate_in_window moment p (Credited settled at) past before onward now =
    let same : fate_moment p.fate ≡ settled = ap fate_moment onward in
    let low : settled ≤ moment = omega (arith, past, same) in
    let window : (nat_le p.shown settled && nat_lt settled p.deadline) ≡ true = ap (is_in_window p) (sym onward) ∙ before in
    let parts = and_parts (nat_le p.shown settled) (nat_lt settled p.deadline) window in
    let late : nat_le settled at ≡ true = grind (arith, nat_tests, now, low) in
    and_from (nat_le p.shown settled) (nat_lt settled p.deadline && nat_le settled at) parts.0 (and_from (nat_lt settled p.deadline) (nat_le settled at) parts.1 late)

known_past : (S : State) (number : ℕ) (p : Placement) → placement_of S.tables number ≡ Some p → latest S.tables ≤ S.moment → placement_moment p ≤ S.moment
known_past S number p is past = (found_all (λ (x : Placement). placement_moment x ≤ S.moment) (λ (x : Placement). x.number == number) S.tables.placements p (placements_past S past) is).0

good_found : (S : State) (number : ℕ) (fate : Fate) (found : Option Placement) → placement_of S.tables number ≡ found → IsAlmostKept S → IsOnward S.moment fate found → IsOfNow S.moment fate → IsGoodFate fate found
good_found S number fate None is h onward now = tt
good_found S number fate (Some p) is h onward now = fate_good S.moment p fate (known_past S number p is h.past) h.moment onward now

pub good_fate : (S : State) (change : Change) → IsAlmostKept S → IsLawful S change → IsProper S change → HasGoodFate S change
good_fate S (PutFate number fate) h lawful proper = good_found S number fate (placement_of S.tables number) refl h lawful proper
good_fate S change h lawful proper = tt

-- placements in turn
abbrev IsNotLater : Placement → Placement → Type 0
IsNotLater p later = p.shown ≤ later.shown

turns-fate : (S : State) (number : ℕ) (fate : Fate) (found : Option Placement) → placement_of S.tables number ≡ found → IsAlmostKept S → IsOnward S.moment fate found → IsOfNow S.moment fate
    → AreInTurn (put_fate S.tables fate found).placements
turns-fate S number fate None is h onward now = h.in_turn
turns-fate S number fate (Some p) is h onward now =
    let q : Placement = record p { fate = fate } in
    let rows = S.tables.placements in
    let test = λ (x : Placement). x.number == number in
    let one = only placement_key test rows p (Ordered-from placement_key rows h.in_order.placements) is in
    let stands =
    Each-mono (λ (s : Placement). is_same_key (placement_key s) (placement_key q) ≡ true → s ≡ p) (λ (s : Placement). is_same_key (placement_key s) (placement_key q) ≡ true → StandsFor IsNotLater q s) rows
    (λ s alike key x. (λ k. subst (λ (y : Placement). y.shown ≤ x.shown) (alike key) k, λ k. subst (λ (y : Placement). x.shown ≤ y.shown) (alike key) k)) one in
    let deadline = (found_all (λ (x : Placement). x.deadline ≡ x.shown + CLICK_WINDOW) test rows p h.in_turn.deadlines is).0 in
    let window = (found_all (λ (x : Placement). is_in_window x x.fate ≡ true) test rows p h.in_turn.windows is).0 in
    record {
      moments = AllPairs-from IsNotLater (put_row placement_key q rows) (Pairs-put IsNotLater placement_key q rows stands (inl (found_has placement_key test rows p is)) (Pairs-from IsNotLater rows h.in_turn.moments));
      deadlines = All-put (λ (x : Placement). x.deadline ≡ x.shown + CLICK_WINDOW) placement_key q rows deadline h.in_turn.deadlines;
      windows = All-put (λ (x : Placement). is_in_window x x.fate ≡ true) placement_key q rows (fate_in_window S.moment p fate (known_past S number p is h.past) window onward now) h.in_turn.windows;
    }

turns-shown : (S : State) (p : Placement) → IsAlmostKept S → IsPayable S p → IsProperPlacement S p → AreInTurn (put_row placement_key p S.tables.placements)
turns-shown S p h payable proper =
    let rows = S.tables.placements in
    let whole = next_last placement_key (λ (x : Placement). x.number) p rows (λ x. refl) h.numbered.placements payable.next in
    let before =
    Each-mono (λ (x : Placement). placement_moment x ≤ S.moment) (λ (x : Placement). x.shown ≤ p.shown) rows (λ x k. omega (arith, k, proper.now))
    (Each-from_All (λ (x : Placement). placement_moment x ≤ S.moment) rows (placements_past S h.past)) in
    record {
      moments = AllPairs-from IsNotLater (put_row placement_key p rows) (subst (λ (ps : List Placement). Pairs IsNotLater ps) (sym whole) (Pairs-last IsNotLater rows p before (Pairs-from IsNotLater rows h.in_turn.moments)));
      deadlines = All-put (λ (x : Placement). x.deadline ≡ x.shown + CLICK_WINDOW) placement_key p rows proper.deadline h.in_turn.deadlines;
      windows = All-put (λ (x : Placement). is_in_window x x.fate ≡ true) placement_key p rows (ap (is_in_window p) payable.unclicked) h.in_turn.windows;
    }

pub turns-put : (S : State) (change : Change) → IsAlmostKept S → IsLawful S change → IsProper S change → AreInTurn (put S.tables change).placements
unfolding put
turns-put S (PutPlacement p) h lawful proper = turns-shown S p h lawful proper
turns-put S (PutFate number fate) h lawful proper = turns-fate S number fate (placement_of S.tables number) refl h lawful proper
turns-put S change h lawful proper = h.in_turn

-- the last moment that the rows tell is none to come
budgets_past : (S : State) (b : BudgetSet) → latest S.tables ≤ S.moment → b.at ≤ S.moment → greatest (map (λ (x : BudgetSet). x.at) (put_row budget_key b S.tables.budgets)) ≤ S.moment
unfolding latest
budgets_past S b past low =
    up_to_each (λ (x : BudgetSet). x.at) (put_row budget_key b S.tables.budgets) S.moment
    (Each-put (λ (x : BudgetSet). x.at ≤ S.moment) budget_key b S.tables.budgets low (each_up_to (λ (x : BudgetSet). x.at) S.tables.budgets S.moment (omega (arith, past))))

shown_past : (S : State) (p : Placement) → latest S.tables ≤ S.moment → placement_moment p ≤ S.moment → greatest (map placement_moment (put_row placement_key p S.tables.placements)) ≤ S.moment
unfolding latest
shown_past S p past low =
    up_to_each placement_moment (put_row placement_key p S.tables.placements) S.moment
    (Each-put (λ (x : Placement). placement_moment x ≤ S.moment) placement_key p S.tables.placements low (each_up_to placement_moment S.tables.placements S.moment (omega (arith, past))))

past-fate : (S : State) (number : ℕ) (fate : Fate) (found : Option Placement) → placement_of S.tables number ≡ found → latest S.tables ≤ S.moment → IsOnward S.moment fate found → IsOfNow S.moment fate
    → latest (put_fate S.tables fate found) ≤ S.moment
unfolding latest
past-fate S number fate None is past onward now = past
past-fate S number fate (Some p) is past onward now =
    let known = known_past S number p is past in
    let low : placement_moment (record p { fate = fate }) ≤ S.moment = omega (arith, known, fate_past S.moment p fate known onward now) in
    omega (arith, past, shown_past S (record p { fate = fate }) past low)

pub past-put : (S : State) (change : Change) → latest S.tables ≤ S.moment → IsLawful S change → IsProper S change → latest (put S.tables change) ≤ S.moment
unfolding put latest
past-put S (PutBudget b) past lawful proper = omega (arith, past, budgets_past S b past lawful.past)
past-put S (PutPlacement p) past lawful proper =
    let unclicked : fate_moment p.fate ≡ 0 = ap fate_moment lawful.unclicked in
    let low : placement_moment p ≤ S.moment = omega (arith, lawful.past, unclicked) in
    omega (arith, past, shown_past S p past low)
past-put S (PutFate number fate) past lawful proper = past-fate S number fate (placement_of S.tables number) refl past lawful proper
past-put S change past lawful proper = past

-- a row that tells a moment
reaches : {A : Type 0} (number : A → ℕ) (moment : ℕ) (rows : List A) → list_any (λ x. nat_le moment (number x)) rows ≡ true → moment ≤ greatest (map number rows)
reaches number moment [] h = absurd cc
reaches number moment (r ∷ rows) h =
    elim (cases_Bool (nat_le moment (number r))) [
      | inl t ↦ let low : moment ≤ number r = grind (arith, nat_tests, t) in omega (arith, low)
      | inr t ↦ omega (arith, reaches number moment rows (sym (ap (λ b. b || list_any (λ x. nat_le moment (number x)) rows) t) ∙ h))
    ]

reaches-put : {A : Type 0} (number : A → ℕ) (moment : ℕ) (key : A → List ℕ) (row : A) (rows : List A) → moment ≤ number row → moment ≤ greatest (map number (put_row key row rows))
reaches-put number moment key row rows low =
    reaches number moment (put_row key row rows) (any-put_row (λ x. nat_le moment (number x)) key row rows (grind (arith, nat_tests, low)))

-- budgets that hold now hold at the last moment that the rows tell, where that is now
paid_now : (settings : SettingsValue) (moment edition : ℕ) (T : Tables) → moment ≤ latest T → latest T ≤ moment → StaysWithinBudgets (record { settings = settings; moment = moment; edition = edition; tables = T })
    → StaysWithinBudgets (opened settings T)
unfolding budget spent escrowed
paid_now settings moment edition T low high h =
    let is : moment ≡ latest T = omega (arith, low, high) in
    subst (λ m. StaysWithinBudgets (record { settings = settings; moment = m; edition = 0; tables = T })) is h

fate_reaches : (moment : ℕ) (fate : Fate) → IsOfNow moment fate → moment ≤ fate_moment fate
fate_reaches moment Open now = absurd (elim now [ ])
fate_reaches moment (Settled at) now = omega (arith, now)
fate_reaches moment (Credited settled at) now = omega (arith, now)

paid-fate : (S : State) (number : ℕ) (fate : Fate) (found : Option Placement) → IsAlmostKept S → IsOfNow S.moment fate → latest (put_fate S.tables fate found) ≤ S.moment
    → StaysWithinBudgets (record S { tables = put_fate S.tables fate found }) → StaysWithinBudgets (opened S.settings (put_fate S.tables fate found))
unfolding latest
paid-fate S number fate None h now past holds = h.paid
paid-fate S number fate (Some p) h now past holds =
    let q : Placement = record p { fate = fate } in
    let late : S.moment ≤ placement_moment q = omega (arith, fate_reaches S.moment fate now) in
    paid_now S.settings S.moment S.edition (put_fate S.tables fate (Some p)) (omega (arith, reaches-put placement_moment S.moment placement_key q S.tables.placements late)) past holds

pub paid-put : (S : State) (change : Change) → IsAlmostKept S → IsProper S change → latest (put S.tables change) ≤ S.moment → StaysWithinBudgets (changed S change) → StaysWithinBudgets (opened S.settings (put S.tables change))
unfolding put latest budget spent escrowed
paid-put S (PutBudget b) h proper past holds =
    paid_now S.settings S.moment S.edition (put S.tables (PutBudget b)) (omega (arith, reaches-put (λ (x : BudgetSet). x.at) S.moment budget_key b S.tables.budgets (omega (arith, proper.now)))) past holds
paid-put S (PutPlacement p) h proper past holds =
    paid_now S.settings S.moment S.edition (put S.tables (PutPlacement p)) (omega (arith, reaches-put placement_moment S.moment placement_key p S.tables.placements (omega (arith, proper.now)))) past holds
paid-put S (PutFate number fate) h proper past holds = paid-fate S number fate (placement_of S.tables number) h proper past holds
paid-put S change h proper past holds = h.paid
