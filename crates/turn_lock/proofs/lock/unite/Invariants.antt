use Rattle.std.proofs.Common.{◌≡◌, vec_len}
use Rattle.std.specs.Prelude.{All}
use Rattle.turn_lock.specs.LockValues.{PassValue}
use Rattle.turn_lock.proofs.Uniting.{Unions}
use Rattle.turn_lock.proofs.lock.unite.Given as goal

abbrev pub decreases-loop-pass : goal.decreases-loop-pass
decreases-loop-pass g l = vec_len l.passes

abbrev pub invariant-loop-pass : goal.invariant-loop-pass
invariant-loop-pass g l =
    (l.seat.table_id ≡ l.words.table_id) × Unions l.fn.passes.items l.passes.items l.seat.me × All (λ (p : PassValue g.row.V-Item.Denot g.row.V-Name.Denot). p.lock.table ≡ l.words.table_id) l.passes.items
