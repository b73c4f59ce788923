use Rattle.std.proofs.Common.{◌≡◌, ◌≤◌, vec_capacity}
use Rattle.turn_lock.specs.Views.{newcomer}
use Rattle.turn_lock.specs.Steps.{empty_handed}
use Rattle.turn_lock.proofs.Dealing.{Dealt}
use Rattle.turn_lock.proofs.lock.deal.Given as goal

abbrev pub invariant-loop-number : goal.invariant-loop-number
invariant-loop-number g l =
    let name = g.V.Grows.name l.words.key.value.value in
    (l.seat.table_id ≡ l.words.table_id) × (l.seat.me ≡ empty_handed (newcomer l.number name)) × Dealt record { table = l.words.table_id; name = name } l.number l.passes.items × (l.callers ≤ vec_capacity l.passes)
