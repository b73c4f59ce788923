-- Where a row goes by its key.
use Rattle.std.specs.Prelude.{◌≡◌, ℕ, ◌<◌, ◌≤◌, false, List, length, set}
use Rattle.std.specs.List.{insert}
use Rattle.desk_types.specs.declared.keyed.Slot.{Slot}
use Rattle.desk_types.specs.declared.keyed.Slot.TheVariants.{Taken, Free}
use Rattle.desk_types.specs.Tables.{has_key, put_row}

-- to put the row is to set it at a place that is taken, or to insert it at a free one, where no row has its key
abbrev pub IsSlot : {A : Type 0} → (A → List ℕ) → A → List A → Slot → Type 0
IsSlot key row rows (Taken place) = (place < length rows) × (put_row key row rows ≡ set rows place row)
IsSlot key row rows (Free place) =
    (place ≤ length rows) × (has_key key (key row) rows ≡ false) × (put_row key row rows ≡ insert rows place row)
