-- Rows that stand by account and number.
use Rattle.std.specs.Prelude.{◌≡◌, ℕ, Bool, nat_eq, ◌==◌, ◌&&◌, List, [], ◌∷◌, ◌++◌, true, map, filter, count_by}
use Rattle.desk_types.specs.Rules.{last_passes}
use Rattle.desk_types.specs.Sound.{AreInOrder}

-- an account and a number of it, as a key
abbrev pub own_key : {A : Type 0} → (A → ℕ) → (A → ℕ) → A → List ℕ
own_key owner number row = owner row ∷ number row ∷ []

-- whether two pairs of an account and a number of it are equal
abbrev pub is_same_pair : ℕ × ℕ → ℕ × ℕ → Bool
is_same_pair one other = nat_eq one.0 other.0 && nat_eq one.1 other.1

-- the rows stand in order, and the last one's number tells how many its account has
pub record AreOwnRows {A : Type 0} (owner number : A → ℕ) (rows : List A) : Type 0 where
  pub in_order : AreInOrder (own_key owner number) rows
  pub counted : (last : A) (rest : List A) → rows ≡ rest ++ last ∷ []
      → number last ≡ count_by (λ row. owner row == owner last) rows

-- the numbers are those of the rows of the last row's account
abbrev pub AreSeen : {A : Type 0} → (A → ℕ) → (A → ℕ) → List A → List ℕ → Type 0
AreSeen owner number rows seen = (account : ℕ) → last_passes (λ r. owner r == account) rows ≡ true
    → seen ≡ map number (filter (λ r. owner r == account) rows)
