-- Beginnings of a list, and the items of it that are by one number.
use Rattle.std.specs.Prelude.{◌≡◌, ℕ, List, ◌++◌, filter, ◌==◌, All}

-- the list `whole` begins with `part`
abbrev pub IsPrefix : {I : Type 0} → List I → List I → Type 0
IsPrefix {I} part whole = (rest : List I) × (whole ≡ part ++ rest)

-- the items by this number, in order
abbrev pub items_by : {I : Type 0} → (I → ℕ) → ℕ → List I → List I
items_by by number xs = filter (λ x. by x == number) xs

-- `now` is `before` with items by this number at its end
abbrev pub GrowsBy : {I : Type 0} → (I → ℕ) → ℕ → List I → List I → Type 0
GrowsBy {I} by number before now = (added : List I) × (now ≡ before ++ added) × All (λ x. by x ≡ number) added
