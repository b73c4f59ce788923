-- Whether a negative of a number lives.
use Rattle.std.proofs.Common.{◌≡◌, ℕ, suc, ◌+◌, ◌<◌, Bool, true, false, ◌==◌, ◌&&◌, ◌||◌, inl, inr, List, [], ◌∷◌, length, map, find, None, Some, refl, sym, ap, ◌∙◌, arith}
use Rattle.std.specs.List.{list_any, range_with_len}
use Rattle.std.proofs.lemmas.Bool.{cases_Bool, cond-true, cond-false, eqb-true, ne_eqb}
use Rattle.std.proofs.lemmas.List.{length-map}
use Rattle.std.proofs.lemmas.Option.{same_Some}
use Rattle.desk_types.specs.declared.rows.Negative.{Negative}
use Rattle.desk_types.specs.declared.tables.Tables.{Tables}
use Rattle.desk_types.specs.Judged.{has_live_negative}
use Rattle.desk_types.specs.Tables.{negative_of}
use Rattle.accounts.specs.BookValue.{ShelfValue}
use Rattle.accounts.specs.Shelved.{HasShelf}
use Rattle.accounts.proofs.Finds.{negative_found}
use Rattle.accounts.proofs.Joined.{any-group}

none_some : {A : Type 0} (x : A) → None ≡ Some x → ⊥
none_some x h = cc

-- where none is found, none passes
pub any_none : {A : Type 0} (test more : A → Bool) (xs : List A) → find test xs ≡ None → list_any (λ x. test x && more x) xs ≡ false
any_none test more [] h = refl
any_none test more (x ∷ xs) h =
    elim (cases_Bool (test x)) [
      | inl t ↦ absurd (none_some x (sym h ∙ cond-true (test x) _ _ t))
      | inr t ↦ ap (λ b. (b && more x) || list_any (λ y. test y && more y) xs) t ∙ any_none test more xs (sym (cond-false (test x) _ _ t) ∙ h)
    ]

head_of : (x n : ℕ) (xs : List ℕ) (len : ℕ) → x ∷ xs ≡ range_with_len n (suc len) → (x ≡ n) × (xs ≡ range_with_len (n + 1) len)
head_of x n xs len e = (cc, cc)

-- no row behind has a lower number
any_low : {A : Type 0} (number : A → ℕ) (more : A → Bool) (rows : List A) (n wanted : ℕ) → map number rows ≡ range_with_len n (length rows) → wanted < n → list_any (λ x. number x == wanted && more x) rows ≡ false
any_low number more [] n wanted run low = refl
any_low number more (r ∷ rows) n wanted run low =
    let e = head_of (number r) n (map number rows) (length rows) run in
    ap (λ b. (b && more r) || list_any (λ x. number x == wanted && more x) rows) (ne_eqb (number r) wanted (λ is. omega (arith, e.0, is, low)))
    ∙ any_low number more rows (n + 1) wanted e.1 (omega (arith, low))

or_false : (b : Bool) → (b || false) ≡ b
or_false true = refl
or_false false = refl

-- of rows that are numbered one after another, the one that is found passes or none
pub any_one : {A : Type 0} (number : A → ℕ) (more : A → Bool) (rows : List A) (n wanted : ℕ) (x : A) → map number rows ≡ range_with_len n (length rows) → find (λ y. number y == wanted) rows ≡ Some x
    → list_any (λ y. number y == wanted && more y) rows ≡ more x
any_one number more [] n wanted x run h = absurd cc
any_one number more (r ∷ rows) n wanted x run h =
    let e = head_of (number r) n (map number rows) (length rows) run in
    elim (cases_Bool (number r == wanted)) [
      | inl t ↦
          let same = same_Some r x (sym (cond-true (number r == wanted) _ _ t) ∙ h) in
          ap (λ b. (b && more r) || list_any (λ y. number y == wanted && more y) rows) t
          ∙ ap (λ b. more r || b) (any_low number more rows (n + 1) wanted e.1 (omega (arith, e.0, eqb-true (number r) wanted t)))
          ∙ or_false (more r) ∙ ap more same
      | inr t ↦
          ap (λ b. (b && more r) || list_any (λ y. number y == wanted && more y) rows) t
          ∙ any_one number more rows (n + 1) wanted x e.1 (sym (cond-false (number r == wanted) _ _ t) ∙ h)
    ]

by_shelf : (T : Tables) (account n : ℕ) (s : ShelfValue) → HasShelf T account s → has_live_negative T account n ≡ list_any (λ k. k.number == n && k.live) s.negatives
by_shelf T account n s h =
    any-group (λ (k : Negative). k.account == account) (λ k. k.number == n && k.live) T.negatives ∙ ap (list_any (λ (k : Negative). k.number == n && k.live)) h.negatives

pub live_some : (T : Tables) (account n : ℕ) (s : ShelfValue) (k : Negative) → HasShelf T account s → negative_of T account n ≡ Some k → has_live_negative T account n ≡ k.live
live_some T account n s k h is =
    by_shelf T account n s h
    ∙ any_one (λ (x : Negative). x.number) (λ x. x.live) s.negatives 1 n k (h.is.negatives ∙ ap (range_with_len 1) (length-map s.negatives (λ (x : Negative). x.number))) (negative_found T account n s h ∙ is)

pub live_none : (T : Tables) (account n : ℕ) (s : ShelfValue) → HasShelf T account s → negative_of T account n ≡ None → has_live_negative T account n ≡ false
live_none T account n s h is = by_shelf T account n s h ∙ any_none (λ (x : Negative). x.number == n) (λ x. x.live) s.negatives (negative_found T account n s h ∙ is)
