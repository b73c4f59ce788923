-- Placements that are found by number.
use Rattle.std.proofs.Common.{◌≡◌, ℕ, ◌<◌, ◌≤◌, ◌==◌, Bool, true, false, List, [], ◌∷◌, Some, find, length, get_or, set, refl, sym, ap, subst, ◌∙◌, arith}
use Rattle.std.specs.List.{position_or_len, slice_get}
use Rattle.std.proofs.lemmas.Bool.Decides.{nat_tests}
use Rattle.std.proofs.lemmas.List.Folds.{find_at}
use Rattle.std.proofs.lemmas.List.Sums.{passes_at_first, position_or_len_is}
use Rattle.std.proofs.lemmas.Option.{slice_get-get_or, slice_get_past}
use Rattle.desk_types.specs.declared.rows.Fate.{Fate}
use Rattle.desk_types.specs.declared.rows.Placement.{Placement}
use Rattle.desk_types.specs.Keys.{is_less_key, is_same_key, placement_key}
use Rattle.desk_types.specs.Sound.{AreInOrder}
use Rattle.desk_types.proofs.Lawful.{finds_one}
use Rattle.desk_types.proofs.Puts.{FindsKey}
use Rattle.desk_keeper.specs.RowsValue.{with_fate}
use Rattle.desk_keeper.proofs.Anywhere.{puts_at}

less_number : (x y n : ℕ) → is_less_key (x ∷ []) (y ∷ []) ≡ true → y ≡ n → (x == n) ≡ false
less_number x y n h k = grind (arith, nat_tests)

is_number : (x n : ℕ) → x ≡ n → (x == n) ≡ true
is_number x n h = grind (arith, nat_tests)

has_number : (x n : ℕ) → (x == n) ≡ true → x ≡ n
has_number x n h = grind (arith, nat_tests)

-- among rows in order, a row with the number is the first one
pub first_of_number : (rows : List Placement) (number place : ℕ) (d : Placement) → AreInOrder placement_key rows → place < length rows → (get_or rows place d).number ≡ number
    → place ≡ position_or_len (λ p. p.number == number) rows
first_of_number rows number place d order low is =
    sym (position_or_len_is (λ p. p.number == number) rows place d (omega (arith, low))
    (λ k before. less_number (get_or rows k d).number (get_or rows place d).number number (order k place d before low) is) (λ within. is_number _ number is))

-- to set the fate of the row there is to put it with this fate
pub sets_fate : (rows : List Placement) (number place : ℕ) (fate : Fate) (p : Placement) → place ≡ position_or_len (λ q. q.number == number) rows → place < length rows → p ≡ get_or rows place p
    → set rows place (record p { fate = fate }) ≡ with_fate fate (find (λ q. q.number == number) rows) rows
sets_fate rows number place fate p at low read =
    let test : Placement → Bool = λ q. q.number == number in
    let row : Placement = record p { fate = fate } in
    let passes : (p.number == number) ≡ true = ap (λ q. q.number == number) (read ∙ ap (λ n. get_or rows n p) at) ∙ passes_at_first test rows p (omega (arith, at, low)) in
    let finds : FindsKey placement_key (placement_key row) test =
    subst (λ n. FindsKey placement_key (n ∷ []) test) (sym (has_number p.number number passes)) (finds_one placement_key (λ (x : Placement). x.number) number (λ x. refl)) in
    let same : position_or_len (λ r. is_same_key (placement_key r) (placement_key row)) rows ≡ place = sym (λ i. position_or_len (λ x. finds x i) rows) ∙ sym at in
    let found : find test rows ≡ Some p = find_at test rows ∙ ap (slice_get rows) (sym at) ∙ slice_get-get_or rows place p low ∙ ap Some (sym read) in
    sym (ap (λ o. with_fate fate o rows) found ∙ puts_at placement_key row rows (omega (arith, same, low)) ∙ ap (λ n. set rows n row) same)

-- where no row has the number, no fate is set
pub sets_none : (rows : List Placement) (number place : ℕ) (fate : Fate) → place ≡ position_or_len (λ q. q.number == number) rows → length rows ≤ place
    → rows ≡ with_fate fate (find (λ q. q.number == number) rows) rows
sets_none rows number place fate at high =
    sym (ap (λ o. with_fate fate o rows) (find_at (λ q. q.number == number) rows ∙ ap (slice_get rows) (sym at) ∙ slice_get_past rows place high))
