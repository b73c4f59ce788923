use Rattle.std.proofs.Common.{◌≡◌, ◌++◌, length}
use Rattle.std.specs.Vec.Iter.{into_iter_items, into_iter_len}
use Rattle.desk_keeper.proofs.Putting.{ArePut}
use Rattle.desk_keeper.proofs.rows.Rows.put_all.Given as goal

abbrev pub invariant-loop-change : goal.invariant-loop-change
invariant-loop-change l =
    (l.yielded ++ into_iter_items l.change-iterator ≡ into_iter_items l.initial.change-iterator)
    × ArePut l.initial.self l.self l.in_order l.yielded (into_iter_items l.change-iterator)
    × (into_iter_len l.change-iterator ≡ length (into_iter_items l.change-iterator))
