use Rattle.std.proofs.Common.{◌≡◌, map, take}
use Rattle.desk_types.specs.declared.tables.Change.TheVariants.{PutPlacement}
use Rattle.desk_core.proofs.asking.changes_of.Given as goal

abbrev pub invariant-loop-placement : goal.invariant-loop-placement
invariant-loop-placement l = l.changes.items ≡ map PutPlacement (take l.placement-index l.list)
