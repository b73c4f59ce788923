-- The rows of a desk as contracts see them, and the room that changes need.
use Rattle.std.specs.Prelude.{ℕ, ◌≤◌, length, ⊤}
use Rattle.accounts.specs.BookValue.{Room}
use Rattle.accounts.specs.BookValue.{HasRoom as HasRoomInBook}
use Rattle.desk_types.specs.State.{State}
use Rattle.desk_core.specs.declared.plan.Changes.{Changes}
use Rattle.desk_core.specs.declared.plan.Changes.TheVariants.{Nothing, Fate, Placed, Catalogue}

-- the room for further rows without memory: that of the book of accounts, and how many more placements
pub record Spare : Type 0 where
  pub book : Room
  pub placements : ℕ

-- the state, and the room for further rows
pub record LedgerValue : Type 0 where
  pub state : State
  pub spare : Spare

-- there is room for the changes; none and a fate need none
abbrev pub HasRoom : Spare → Changes → Type 0
HasRoom spare Nothing = ⊤
HasRoom spare (Fate number fate) = ⊤
HasRoom spare (Placed list) = length list ≤ spare.placements
HasRoom spare (Catalogue list) = HasRoomInBook spare.book list
