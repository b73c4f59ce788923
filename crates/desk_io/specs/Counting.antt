-- A sink that counts as contracts see it.
use Rattle.std.specs.Prelude.{ℕ, ◌-◌, ◌^◌, min, None, Some, []}
use Rattle.desk_io.specs.SinkView.{SinkView}

-- a count of 64 bits that stays at its last value
abbrev pub capped : ℕ → ℕ
capped count = min count (2 ^ 64 - 1)

-- it tells how many bytes it took, and not which
abbrev pub view_of_count : ℕ → SinkView
view_of_count count = record { written = None; taken = Some (capped count); faults = 0; lenders = [] }
