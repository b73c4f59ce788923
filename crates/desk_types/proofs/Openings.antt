-- The greatest of a list's numbers, one number more.
use Rattle.std.proofs.Common.{◌≡◌, ℕ, zero, suc, ◌+◌, ◌∙◌, ◌<◌, max, List, [], ◌∷◌, ◌++◌, length, map, take, get_or, ap, refl, arith}
use Rattle.desk_types.specs.Opening.{greatest}

pub greatest-more : {A : Type 0} (number : A → ℕ) (rows : List A) (row : A) → greatest (map number (rows ++ row ∷ [])) ≡ max (number row) (greatest (map number rows))
greatest-more number [] row = refl
greatest-more number (r ∷ rows) row = omega (arith, greatest-more number rows row)

pub greatest-next : {A : Type 0} (number : A → ℕ) (rows : List A) (k : ℕ) (d : A) → k < length rows
    → greatest (map number (take (suc k) rows)) ≡ max (number (get_or rows k d)) (greatest (map number (take k rows)))
greatest-next number [] k d low = absurd (omega (arith, low))
greatest-next number (r ∷ rows) zero d low = refl
greatest-next number (r ∷ rows) (suc k) d low = omega (arith, greatest-next number rows k d (omega (arith, low)))

pub greatest-then : {A : Type 0} (number : A → ℕ) (rows : List A) (k : ℕ) (d : A) → k < length rows
    → greatest (map number (take (k + 1) rows)) ≡ max (number (get_or rows k d)) (greatest (map number (take k rows)))
greatest-then number rows k d low =
    let next : k + 1 ≡ suc k = omega arith in
    ap (λ n. greatest (map number (take n rows))) next ∙ greatest-next number rows k d low
