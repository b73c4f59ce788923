-- The line of a pattern, looked for by its fingerprint.
use Rattle.std.proofs.Common.{◌≡◌, ℕ, suc, ◌+◌, ◌<◌, ◌≤◌, Bool, true, not, ◌==◌, ◌&&◌, inl, inr, List, [], ◌∷◌, ◌++◌, length, map, find, take, drop, cond, None, Some, refl, sym, ap, ◌∙◌, arith}
use Rattle.std.specs.List.{insert, position, position_or_len}
use Rattle.std.specs.Prelude.{nat_lt}
use Rattle.std.proofs.lemmas.Bool.{and_parts, both_ways, cases_Bool, cond-true, cond-false, eq-eqb, eqb-true, false_from_ne_true}
use Rattle.std.proofs.lemmas.Bool.Decides.{nat_tests}
use Rattle.desk_types.specs.declared.rows.Line.{Line}
use Rattle.match_types.specs.Fingerprint.{fingerprint_from}
use Rattle.match_types.specs.Tests.{is_same_pattern}
use Rattle.accounts.specs.BookValue.{line_fingerprint}
use Rattle.std.proofs.lemmas.List.{drop-map, drop_all, length-map, map-append, take-map}

-- what is inserted
pub map_insert : {A B : Type 0} (f : A → B) (xs : List A) (place : ℕ) (x : A) → map f (insert xs place x) ≡ insert (map f xs) place (f x)
map_insert f xs place x = map-append f (take place xs) (x ∷ drop place xs) ∙ (λ i. sym (take-map f place xs) i ++ f x ∷ sym (drop-map f place xs) i)

-- no row passes before the first that has the number
skipped : {A : Type 0} (test : A → Bool) (number : A → ℕ) (wanted : ℕ) (rows : List A) → ((x : A) → test x ≡ true → number x ≡ wanted)
    → find test (drop (position_or_len (λ n. n == wanted) (map number rows)) rows) ≡ find test rows
skipped test number wanted [] h = refl
skipped test number wanted (r ∷ rows) h =
    let k = position_or_len (λ n. n == wanted) (map number rows) in
    elim (cases_Bool (number r == wanted)) [
      | inl t ↦ ap (λ b. find test (drop (cond (not b) (1 + k) 0) (r ∷ rows))) t
      | inr t ↦
          let next : 1 + k ≡ suc k = omega arith in
          ap (λ b. find test (drop (cond (not b) (1 + k) 0) (r ∷ rows))) t ∙ ap (λ n. find test (drop n (r ∷ rows))) next ∙ skipped test number wanted rows h
          ∙ sym (cond-false (test r) (Some r) (find test rows) (false_from_ne_true (test r) (λ u. both_ways _ t (eq-eqb (number r) wanted (h r u)))))
    ]

none_some : {A : Type 0} (x : A) → None ≡ Some x → ⊥
none_some x h = cc

same_some : (x y : ℕ) → Some x ≡ Some y → x ≡ y
same_some x y h = cc

place_of_none : (k n : ℕ) → cond (nat_lt k n) (Some k) None ≡ None → n ≤ k
place_of_none k n h = grind (arith, nat_tests)

place_of_some : (k n i : ℕ) → cond (nat_lt k n) (Some k) None ≡ Some i → (k ≡ i) × (i < n)
place_of_some k n i h =
    elim (cases_Bool (nat_lt k n)) [
      | inl t ↦ let is : k ≡ i = same_some k i (sym (cond-true (nat_lt k n) (Some k) None t) ∙ h) in (is, grind (arith, nat_tests))
      | inr t ↦ absurd (none_some i (sym (cond-false (nat_lt k n) (Some k) None t) ∙ h))
    ]

-- where none has the number, none passes
pub none_found : {A : Type 0} (test : A → Bool) (number : A → ℕ) (wanted : ℕ) (rows : List A) → ((x : A) → test x ≡ true → number x ≡ wanted) → position (λ n. n == wanted) (map number rows) ≡ None → find test rows ≡ None
none_found test number wanted rows h none =
    let k = position_or_len (λ n. n == wanted) (map number rows) in
    sym (skipped test number wanted rows h)
    ∙ ap (find test) (drop_all k rows (omega (arith, length-map rows number, place_of_none k (length (map number rows)) none)))

-- what passes is found from the first that has the number on
pub found_from : {A : Type 0} (test : A → Bool) (number : A → ℕ) (wanted first : ℕ) (rows : List A) → ((x : A) → test x ≡ true → number x ≡ wanted) → position (λ n. n == wanted) (map number rows) ≡ Some first
    → (first < length rows) × (find test (drop first rows) ≡ find test rows)
found_from test number wanted first rows h at =
    let k = position_or_len (λ n. n == wanted) (map number rows) in
    let is = place_of_some k (length (map number rows)) first at in
    (omega (arith, is.1, length-map rows number), ap (λ n. find test (drop n rows)) (sym is.0) ∙ skipped test number wanted rows h)

-- a line that has the pattern has the number by which it is looked for
pub like_number : (campaign wanted : ℕ) (pattern : List ℕ) → ((other : List ℕ) → is_same_pattern other pattern ≡ true → fingerprint_from campaign other ≡ wanted) → (l : Line) → (l.campaign == campaign && is_same_pattern l.pattern pattern) ≡ true
    → line_fingerprint l ≡ wanted
like_number campaign wanted pattern same l h =
    let parts = and_parts (l.campaign == campaign) (is_same_pattern l.pattern pattern) h in
    ap (λ n. fingerprint_from n l.pattern) (eqb-true l.campaign campaign parts.0) ∙ same l.pattern parts.1
