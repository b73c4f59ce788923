-- A door as contracts see it.
use Rattle.std.specs.Prelude.{ℕ, Bool, List, Option}

-- the links that wait and those that were given back, where it tells them, how many accepts failed, how many links were
-- accepted and are not given back, and whether it is shut
pub record DoorView (L : Type 0) : Type 0 where
  pub waiting : Option (List L)
  pub given : Option (List L)
  pub faults : ℕ
  pub out : ℕ
  pub shut : Bool
