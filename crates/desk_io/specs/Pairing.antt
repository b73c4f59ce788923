-- A pair of a source and a sink as contracts see it.
use Rattle.std.specs.Prelude.{List, [], ◌∷◌}
use Rattle.std.specs.Borrow.{GName}
use Rattle.desk_io.specs.declared.pair.Pair.{Pair}

-- the borrows of the two
abbrev pub lenders_of : {S T : Type 0} → Pair S T → List GName
lenders_of pair = pair.source.ghost_name ∷ pair.sink.ghost_name ∷ []
