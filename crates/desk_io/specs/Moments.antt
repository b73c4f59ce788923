-- The moments that a clock tells.
use Rattle.std.specs.Prelude.{ℕ, List, [], ◌∷◌}

-- what a clock answers: its first moment, or 0 where it has none
abbrev pub moment_now : List ℕ → ℕ
moment_now [] = 0
moment_now (moment ∷ later) = moment

-- what it has then: the last moment stays
abbrev pub moments_left : List ℕ → List ℕ
moments_left [] = []
moments_left (moment ∷ []) = moment ∷ []
moments_left (moment ∷ next ∷ later) = next ∷ later
