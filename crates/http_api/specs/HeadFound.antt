-- The fields of a name as they are found.
use Rattle.std.specs.Prelude.{◌≡◌, ℕ, List, [], ◌∷◌}
use Rattle.http_api.specs.declared.head.Found.{Found}
use Rattle.http_api.specs.declared.head.Found.TheVariants.{Absent, Once, Repeated}

-- these are the values of a name
abbrev pub IsFound : List (List ℕ) → Found → Type 0
IsFound values Absent = values ≡ []
IsFound values (Once value) = values ≡ value.now ∷ []
IsFound values (Repeated first) = (other : List ℕ) × (more : List (List ℕ)) × (values ≡ first.now ∷ other ∷ more)
