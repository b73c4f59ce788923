use Rattle.std.proofs.Common.{◌≡◌, ◌++◌, length}
use Rattle.std.specs.Vec.Iter.{into_iter_items, into_iter_len}
use Rattle.accounts.proofs.Rooms.{ArePut}
use Rattle.accounts.proofs.book.Book.put_all.Given as goal

abbrev pub invariant-loop-change : goal.invariant-loop-change
invariant-loop-change l =
    (l.yielded ++ into_iter_items l.change-iterator ≡ into_iter_items l.initial.change-iterator)
    × ArePut l.initial.self l.self l.yielded (into_iter_items l.change-iterator)
    × (into_iter_len l.change-iterator ≡ length (into_iter_items l.change-iterator))
