-- Two lists that fit place by place.
use Rattle.std.proofs.Common.{◌≡◌, ℕ, suc, ◌<◌, List, [], ◌∷◌, length, slice_index_or, arith}
use Rattle.std.specs.List.{AllZip}

pub zip_each : {A : Type 0} (R : A → A → Type 0) (xs ys : List A) → length ys ≡ length xs
    → ((i : ℕ) (d : A) → i < length xs → R (slice_index_or xs i d) (slice_index_or ys i d)) → AllZip R xs ys
zip_each R [] [] same each = tt
zip_each R (x ∷ xs) (y ∷ ys) same each =
    (each 0 x (omega arith), zip_each R xs ys (omega (arith, same)) (λ i d h. each (suc i) d (omega (arith, h))))
zip_each R [] (y ∷ ys) same each = absurd (omega (arith, same))
zip_each R (x ∷ xs) [] same each = absurd (omega (arith, same))
