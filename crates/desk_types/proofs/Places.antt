-- The place of a key, and a row that is put there.
use Rattle.std.proofs.Common.{◌≡◌, ℕ, zero, suc, ◌<◌, ◌≤◌, true, false, ◌||◌, ◌⊎◌, inl, inr, List, [], ◌∷◌, length, get_or, set, refl, sym, ap, subst, ◌∙◌, arith}
use Rattle.std.specs.List.{insert}
use Rattle.std.specs.List.Sorted.{IsPartitionPoint}
use Rattle.std.proofs.lemmas.List.{get_or_default}
use Rattle.std.proofs.lemmas.Bool.{cases_Bool, cond-true, cond-false, both_ways, false_from_ne_true}
use Rattle.desk_types.specs.Keys.{is_less_key, is_same_key}
use Rattle.desk_types.specs.Sound.{AreInOrder}
use Rattle.desk_types.specs.Tables.{has_key, inserted, put_row, replaced}
use Rattle.desk_types.proofs.EachRow.{Each}
use Rattle.desk_types.proofs.InOrder.{Ordered-from}
use Rattle.desk_types.proofs.Puts.{Ordered, less-irreflexive, less-trans, less-total, same_key, put_there, put_new}

-- the rows before the place have lesser keys, and those from it on have none
pub record IsPlace {A : Type 0} (key : A → List ℕ) (wanted : List ℕ) (rows : List A) (place : ℕ) : Type 0 where
  pub before : (k : ℕ) (d : A) → k < place → is_less_key (key (get_or rows k d)) wanted ≡ true
  pub from : (k : ℕ) (d : A) → place ≤ k → k < length rows → is_less_key (key (get_or rows k d)) wanted ≡ false

-- the place that a search by halving finds
pub place_from : {A : Type 0} (key : A → List ℕ) (wanted : List ℕ) (rows : List A) (place : ℕ)
    → IsPartitionPoint (λ (r : A). is_less_key (key r) wanted ≡ true) (λ (r : A). is_less_key (key r) wanted ≡ false) rows place → IsPlace key wanted rows place
place_from key wanted rows place h = record {
  before = λ k d low. h.0 k d (omega arith) low;
  from = λ k d low high. h.1 k d low high;
}

place_behind : {A : Type 0} (key : A → List ℕ) (wanted : List ℕ) (r : A) (rows : List A) (place : ℕ) → IsPlace key wanted (r ∷ rows) (suc place) → IsPlace key wanted rows place
place_behind key wanted r rows place h = record {
  before = λ k d low. h.before (suc k) d (omega (arith, low));
  from = λ k d low high. h.from (suc k) d (omega (arith, low)) (omega (arith, high));
}

-- a lesser key is another one
other_if_less : (a b : List ℕ) → is_less_key a b ≡ true → is_same_key a b ≡ false
other_if_less a b h = false_from_ne_true (is_same_key a b) (λ t. both_ways _ (less-irreflexive b) (subst (λ k. is_less_key k b ≡ true) (same_key a b t) h))

-- of two keys neither of which is less they are the same
same_if_none_less : (a b : List ℕ) → is_less_key a b ≡ false → is_less_key b a ≡ false → is_same_key a b ≡ true
same_if_none_less a b h k =
    elim (cases_Bool (is_same_key a b)) [
      | inl t ↦ t
      | inr t ↦ absurd (both_ways _ k (less-total a b t h))
    ]

not_less_back : (a b : List ℕ) → is_less_key a b ≡ true → is_less_key b a ≡ false
not_less_back a b h = false_from_ne_true (is_less_key b a) (λ t. both_ways _ (less-irreflexive a) (less-trans a b a h t))

-- the row at the place has the key: it is the first that has it
has_at : {A : Type 0} (key : A → List ℕ) (row : A) (rows : List A) (place : ℕ) (d : A) → IsPlace key (key row) rows place → place < length rows → is_less_key (key row) (key (get_or rows place d)) ≡ false
    → has_key key (key row) rows ≡ true
has_at key row [] place d h low same = absurd (omega (arith, low))
has_at key row (r ∷ rows) zero d h low same = ap (λ b. b || has_key key (key row) rows) (same_if_none_less (key r) (key row) (h.from 0 d (omega arith) low) same)
has_at key row (r ∷ rows) (suc place) d h low same =
    ap (λ b. b || has_key key (key row) rows) (other_if_less (key r) (key row) (h.before 0 d (omega arith)))
    ∙ has_at key row rows place d (place_behind key (key row) r rows place h) (omega (arith, low)) same

replaced_at : {A : Type 0} (key : A → List ℕ) (row : A) (rows : List A) (place : ℕ) (d : A) → IsPlace key (key row) rows place → place < length rows → is_less_key (key row) (key (get_or rows place d)) ≡ false
    → replaced key row rows ≡ set rows place row
replaced_at key row [] place d h low same = absurd (omega (arith, low))
replaced_at key row (r ∷ rows) zero d h low same = cond-true _ _ _ (same_if_none_less (key r) (key row) (h.from 0 d (omega arith) low) same)
replaced_at key row (r ∷ rows) (suc place) d h low same =
    cond-false _ _ _ (other_if_less (key r) (key row) (h.before 0 d (omega arith)))
    ∙ ap (λ rest. r ∷ rest) (replaced_at key row rows place d (place_behind key (key row) r rows place h) (omega (arith, low)) same)

pub put-replaces : {A : Type 0} (key : A → List ℕ) (row : A) (rows : List A) (place : ℕ) (d : A) → IsPlace key (key row) rows place → place < length rows → is_less_key (key row) (key (get_or rows place d)) ≡ false
    → put_row key row rows ≡ set rows place row
put-replaces key row rows place d h low same = put_there key row rows (has_at key row rows place d h low same) ∙ replaced_at key row rows place d h low same

-- the row at the place has a greater key, if there is one
abbrev pub IsBehind : {A : Type 0} → (A → List ℕ) → A → List A → ℕ → Type 0
IsBehind {A} key row rows place = (d : A) → place < length rows → is_less_key (key row) (key (get_or rows place d)) ≡ true

pub behind_from : {A : Type 0} (key : A → List ℕ) (row : A) (rows : List A) (place : ℕ) (r : A) → r ≡ get_or rows place r → is_less_key (key row) (key r) ≡ true → IsBehind key row rows place
behind_from key row rows place r at less = λ d low. subst (λ s. is_less_key (key row) (key s) ≡ true) (at ∙ get_or_default rows place r d low) less

pub behind_last : {A : Type 0} (key : A → List ℕ) (row : A) (rows : List A) (place : ℕ) → length rows ≤ place → IsBehind key row rows place
behind_last key row rows place high = λ d low. absurd (omega (arith, low))

-- no row behind a greater key has the key
none_behind : {A : Type 0} (key : A → List ℕ) (row r : A) (rows : List A) → is_less_key (key row) (key r) ≡ true → Each (λ s. is_less_key (key r) (key s) ≡ true) rows → has_key key (key row) rows ≡ false
none_behind key row r [] less h = refl
none_behind key row r (s ∷ rows) less h =
    let behind = less-trans (key row) (key r) (key s) less h.0 in
    let other : is_same_key (key s) (key row) ≡ false = false_from_ne_true _ (λ t. both_ways _ (less-irreflexive (key row)) (subst (λ k. is_less_key (key row) k ≡ true) (same_key _ _ t) behind)) in
    ap (λ b. b || has_key key (key row) rows) other ∙ none_behind key row r rows less h.1

other_if_greater : (a b : List ℕ) → is_less_key b a ≡ true → is_same_key a b ≡ false
other_if_greater a b h = false_from_ne_true (is_same_key a b) (λ t. both_ways _ (less-irreflexive b) (subst (λ k. is_less_key b k ≡ true) (same_key a b t) h))

none_at : {A : Type 0} (key : A → List ℕ) (row : A) (rows : List A) (place : ℕ) → Ordered key rows → IsPlace key (key row) rows place → IsBehind key row rows place → has_key key (key row) rows ≡ false
none_at key row [] place order h behind = refl
none_at key row (r ∷ rows) zero order h behind =
    let less = behind r (omega arith) in
    ap (λ b. b || has_key key (key row) rows) (other_if_greater (key r) (key row) less) ∙ none_behind key row r rows less order.0
none_at key row (r ∷ rows) (suc place) order h behind =
    ap (λ b. b || has_key key (key row) rows) (other_if_less (key r) (key row) (h.before 0 r (omega arith)))
    ∙ none_at key row rows place order.1 (place_behind key (key row) r rows place h) (λ d low. behind d (omega (arith, low)))

inserted_at : {A : Type 0} (key : A → List ℕ) (row : A) (rows : List A) (place : ℕ) → place ≤ length rows → IsPlace key (key row) rows place → IsBehind key row rows place → inserted key row rows ≡ insert rows place row
inserted_at key row [] zero low h behind = refl
inserted_at key row [] (suc place) low h behind = absurd (omega (arith, low))
inserted_at key row (r ∷ rows) zero low h behind = cond-true _ _ _ (behind r (omega arith))
inserted_at key row (r ∷ rows) (suc place) low h behind =
    cond-false _ _ _ (not_less_back (key r) (key row) (h.before 0 r (omega arith)))
    ∙ ap (λ rest. r ∷ rest) (inserted_at key row rows place (omega (arith, low)) (place_behind key (key row) r rows place h) (λ d low. behind d (omega (arith, low))))

pub put-inserts : {A : Type 0} (key : A → List ℕ) (row : A) (rows : List A) (place : ℕ) → AreInOrder key rows → place ≤ length rows → IsPlace key (key row) rows place → IsBehind key row rows place
    → (has_key key (key row) rows ≡ false) × (put_row key row rows ≡ insert rows place row)
put-inserts key row rows place order low h behind =
    let none = none_at key row rows place (Ordered-from key rows order) h behind in
    (none, put_new key row rows none ∙ inserted_at key row rows place low h behind)

below_or_same : (i j : ℕ) → i ≤ j → (i < j) ⊎ (i ≡ j)
below_or_same i j low = grind arith

-- keys are tried in order: the rows with lesser ones come first
pub parted : {A : Type 0} (key : A → List ℕ) (wanted : List ℕ) (rows : List A) → AreInOrder key rows → (i j : ℕ) (d : A) → i ≤ j → j < length rows → is_less_key (key (get_or rows j d)) wanted ≡ true → is_less_key (key (get_or rows i d)) wanted ≡ true
parted key wanted rows order i j d low high less =
    elim (below_or_same i j low) [
      | inl below ↦ less-trans _ (key (get_or rows j d)) wanted (order i j d below high) less
      | inr same ↦ subst (λ k. is_less_key (key (get_or rows k d)) wanted ≡ true) (sym same) less
    ]
