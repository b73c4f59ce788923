-- Rows whose numbers run from 1: what is found by a number.
use Rattle.std.proofs.Common.{◌≡◌, ℕ, zero, suc, ◌+◌, ◌<◌, ◌≤◌, ◌==◌, List, [], ◌∷◌, length, map, find, get_or, None, Some, refl, sym, ap, ◌∙◌, arith}
use Rattle.std.specs.List.{range_with_len}
use Rattle.std.proofs.lemmas.Bool.{cond-true, cond-false, eq-eqb, ne_eqb}
use Rattle.std.proofs.lemmas.List.{length-map}
use Rattle.desk_types.specs.Sound.{RunFromOne}

-- the first number of a run, and the others
head_of : (x n : ℕ) (xs : List ℕ) (len : ℕ) → x ∷ xs ≡ range_with_len n (suc len) → (x ≡ n) × (xs ≡ range_with_len (n + 1) len)
head_of x n xs len e = (cc, cc)

-- no number of a run is below its first
find_before : {A : Type 0} (number : A → ℕ) (rows : List A) (n wanted : ℕ) → map number rows ≡ range_with_len n (length rows) → wanted < n → find (λ x. number x == wanted) rows ≡ None
find_before number [] n wanted run low = refl
find_before number (r ∷ rows) n wanted run low =
    let e = head_of (number r) n (map number rows) (length rows) run in
    cond-false _ _ _ (ne_eqb (number r) wanted (λ is. omega (arith, e.0, is, low))) ∙ find_before number rows (n + 1) wanted e.1 (omega (arith, low))

find_behind : {A : Type 0} (number : A → ℕ) (rows : List A) (n wanted : ℕ) → map number rows ≡ range_with_len n (length rows) → n + length rows ≤ wanted → find (λ x. number x == wanted) rows ≡ None
find_behind number [] n wanted run high = refl
find_behind number (r ∷ rows) n wanted run high =
    let e = head_of (number r) n (map number rows) (length rows) run in
    cond-false _ _ _ (ne_eqb (number r) wanted (λ is. omega (arith, e.0, is, high))) ∙ find_behind number rows (n + 1) wanted e.1 (omega (arith, high))

find_at : {A : Type 0} (number : A → ℕ) (rows : List A) (n i : ℕ) (d : A) → map number rows ≡ range_with_len n (length rows) → i < length rows → find (λ x. number x == n + i) rows ≡ Some (get_or rows i d)
find_at number [] n i d run low = absurd (omega (arith, low))
find_at number (r ∷ rows) n zero d run low =
    let e = head_of (number r) n (map number rows) (length rows) run in
    cond-true _ _ _ (eq-eqb (number r) (n + 0) (omega (arith, e.0)))
find_at number (r ∷ rows) n (suc i) d run low =
    let e = head_of (number r) n (map number rows) (length rows) run in
    let same : n + suc i ≡ n + 1 + i = omega arith in
    cond-false _ _ _ (ne_eqb (number r) (n + suc i) (λ is. omega (arith, e.0, is)))
    ∙ ap (λ m. find (λ x. number x == m) rows) same
    ∙ find_at number rows (n + 1) i d e.1 (omega (arith, low))

run_of : {A : Type 0} (number : A → ℕ) (rows : List A) → RunFromOne (map number rows) → map number rows ≡ range_with_len 1 (length rows)
run_of number rows run = run ∙ ap (range_with_len 1) (length-map rows number)

-- what is found by a number that is there, and by one that is not
pub found_numbered : {A : Type 0} (number : A → ℕ) (rows : List A) (wanted i : ℕ) (x : A) → RunFromOne (map number rows) → wanted ≡ i + 1 → i < length rows → x ≡ get_or rows i x → find (λ y. number y == wanted) rows ≡ Some x
found_numbered number rows wanted i x run is low at =
    let same : wanted ≡ 1 + i = omega (arith, is) in
    ap (λ m. find (λ y. number y == m) rows) same ∙ find_at number rows 1 i x (run_of number rows run) low ∙ ap Some (sym at)

above : (wanted len : ℕ) → (wanted ≤ len → ⊥) → 1 + len ≤ wanted
above wanted len h = grind (arith, h)

pub none_numbered : {A : Type 0} (number : A → ℕ) (rows : List A) (wanted : ℕ) → RunFromOne (map number rows) → (wanted ≡ 0 → ⊥) → (wanted ≤ length rows → ⊥) → find (λ y. number y == wanted) rows ≡ None
none_numbered number rows wanted run some high = find_behind number rows 1 wanted (run_of number rows run) (above wanted (length rows) high)

pub zero_numbered : {A : Type 0} (number : A → ℕ) (rows : List A) → RunFromOne (map number rows) → find (λ y. number y == 0) rows ≡ None
zero_numbered number rows run = find_before number rows 1 0 (run_of number rows run) (omega arith)
