use Rattle.std.proofs.Common.{◌≡◌, ◌++◌, map}
use Rattle.std.specs.Vec.Iter.{into_iter_items}
use Rattle.desk_types.specs.declared.tables.Change.TheVariants.{PutLine}
use Rattle.accounts.proofs.judging.imports.put_import.Given as goal

abbrev pub invariant-loop-line : goal.invariant-loop-line
invariant-loop-line l =
    (l.yielded ++ into_iter_items l.line-iterator ≡ into_iter_items l.initial.line-iterator)
    × (l.changes.items ≡ map PutLine l.yielded)
