-- Where a row goes among rows in any order.
use Rattle.std.proofs.Common.{◌≡◌, ℕ, suc, ◌+◌, ◌<◌, ◌≤◌, Bool, true, false, not, cond, ◌||◌, inl, inr, List, [], ◌∷◌, length, set, refl, sym, subst, ap, ◌∙◌, Option, unwrap_or, arith}
use Rattle.std.specs.Prelude.{nat_lt}
use Rattle.std.specs.List.{insert, position, position_or_len}
use Rattle.std.proofs.lemmas.Bool.{both_ways, cases_Bool, cond-true, cond-false, false_from_ne_true}
use Rattle.std.proofs.lemmas.Bool.Decides.{nat_tests}
use Rattle.desk_types.specs.Keys.{is_less_key, is_same_key}
use Rattle.desk_types.specs.Tables.{has_key, inserted, put_row, replaced}
use Rattle.desk_types.proofs.Puts.{less-irreflexive, less-total, put_new, put_there, same_key}

-- keys are the same where neither is less
pub neither_less : (a b : List ℕ) → is_less_key a b ≡ false → not (is_less_key b a) ≡ is_same_key a b
neither_less a b low =
    elim (cases_Bool (is_less_key b a)) [
      | inl t ↦ ap not t ∙ sym (false_from_ne_true _ (λ same. both_ways _ (less-irreflexive b) (subst (λ k. is_less_key b k ≡ true) (same_key a b same) t)))
      | inr t ↦
          elim (cases_Bool (is_same_key a b)) [
            | inl same ↦ ap not t ∙ sym same
            | inr other ↦ absurd (both_ways _ t (less-total a b other low))
          ]
    ]

-- the first place at which a test passes
at_first : {A : Type 0} (test : A → Bool) (x : A) (xs : List A) → test x ≡ true → position_or_len test (x ∷ xs) ≡ 0
at_first test x xs t = (λ i. cond (not (t i)) (1 + position_or_len test xs) 0)

past_first : {A : Type 0} (test : A → Bool) (x : A) (xs : List A) → test x ≡ false → position_or_len test (x ∷ xs) ≡ suc (position_or_len test xs)
past_first test x xs t =
    let next : 1 + position_or_len test xs ≡ suc (position_or_len test xs) = omega arith in
    (λ i. cond (not (t i)) (1 + position_or_len test xs) 0) ∙ next

first_same : {A : Type 0} (key : A → List ℕ) (row : A) (rows : List A) → position_or_len (λ r. is_same_key (key r) (key row)) rows < length rows
    → (has_key key (key row) rows ≡ true) × (replaced key row rows ≡ set rows (position_or_len (λ r. is_same_key (key r) (key row)) rows) row)
first_same key row [] low = absurd (omega (arith, low))
first_same {A} key row (r ∷ rows) low =
    let test : A → Bool = λ x. is_same_key (key x) (key row) in
    elim (cases_Bool (test r)) [
      | inl t ↦ (
        ap (λ b. b || has_key key (key row) rows) t,
        cond-true (test r) (row ∷ rows) (r ∷ replaced key row rows) t ∙ sym (ap (λ n. set (r ∷ rows) n row) (at_first test r rows t)),
      )
      | inr t ↦
          let next = past_first test r rows t in
          let rest = first_same key row rows (omega (arith, low, next)) in (
            (λ i. t i || rest.0 i),
            cond-false (test r) (row ∷ rows) (r ∷ replaced key row rows) t ∙ ap (λ l. r ∷ l) rest.1 ∙ sym (ap (λ n. set (r ∷ rows) n row) next),
          )
    ]

pub none_same : {A : Type 0} (key : A → List ℕ) (row : A) (rows : List A) → length rows ≤ position_or_len (λ r. is_same_key (key r) (key row)) rows → has_key key (key row) rows ≡ false
none_same key row [] high = refl
none_same {A} key row (r ∷ rows) high =
    let test : A → Bool = λ x. is_same_key (key x) (key row) in
    elim (cases_Bool (test r)) [
      | inl t ↦ absurd (omega (arith, high, at_first test r rows t))
      | inr t ↦ (λ i. t i || none_same key row rows (omega (arith, high, past_first test r rows t)) i)
    ]

first_greater : {A : Type 0} (key : A → List ℕ) (row : A) (rows : List A) → inserted key row rows ≡ insert rows (position_or_len (λ r. is_less_key (key row) (key r)) rows) row
first_greater key row [] = refl
first_greater {A} key row (r ∷ rows) =
    let test : A → Bool = λ x. is_less_key (key row) (key x) in
    elim (cases_Bool (test r)) [
      | inl t ↦ cond-true (test r) (row ∷ r ∷ rows) (r ∷ inserted key row rows) t ∙ sym (ap (λ n. insert (r ∷ rows) n row) (at_first test r rows t))
      | inr t ↦ cond-false (test r) (row ∷ r ∷ rows) (r ∷ inserted key row rows) t ∙ ap (λ l. r ∷ l) (first_greater key row rows) ∙ sym (ap (λ n. insert (r ∷ rows) n row) (past_first test r rows t))
    ]

position_low : {A : Type 0} (test : A → Bool) (xs : List A) → position_or_len test xs ≤ length xs
position_low test [] = omega arith
position_low test (x ∷ xs) =
    elim (cases_Bool (test x)) [
      | inl t ↦ omega (arith, at_first test x xs t)
      | inr t ↦ omega (arith, past_first test x xs t, position_low test xs)
    ]

-- where a search gives no place, all rows were tried
pub first_or_len : {A : Type 0} (test : A → Bool) (xs : List A) (found : Option ℕ) → found ≡ position test xs → unwrap_or found (length xs) ≡ position_or_len test xs
first_or_len test xs found h =
    let low = position_low test xs in
    elim (cases_Bool (nat_lt (position_or_len test xs) (length xs))) [
      | inl t ↦ ap (λ o. unwrap_or o (length xs)) (h ∙ cond-true _ _ _ t)
      | inr t ↦ ap (λ o. unwrap_or o (length xs)) (h ∙ cond-false _ _ _ t) ∙ grind (arith, nat_tests)
    ]

-- to put a row is to set it at the first place of its key, or to insert it at the first place of a greater one
pub puts_at : {A : Type 0} (key : A → List ℕ) (row : A) (rows : List A) → position_or_len (λ r. is_same_key (key r) (key row)) rows < length rows
    → put_row key row rows ≡ set rows (position_or_len (λ r. is_same_key (key r) (key row)) rows) row
puts_at key row rows low = let first = first_same key row rows low in put_there key row rows first.0 ∙ first.1

pub inserts_at : {A : Type 0} (key : A → List ℕ) (row : A) (rows : List A) → length rows ≤ position_or_len (λ r. is_same_key (key r) (key row)) rows
    → (position_or_len (λ r. is_less_key (key row) (key r)) rows ≤ length rows) × (put_row key row rows ≡ insert rows (position_or_len (λ r. is_less_key (key row) (key r)) rows) row)
inserts_at key row rows high = (position_low (λ r. is_less_key (key row) (key r)) rows, put_new key row rows (none_same key row rows high) ∙ first_greater key row rows)
