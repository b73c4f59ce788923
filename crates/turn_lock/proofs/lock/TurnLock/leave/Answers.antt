use Rattle.std.proofs.Common.{◌≡◌, ap, sym, ◌∙◌}
use Rattle.turn_lock.specs.LockValues.{LockId}
use Rattle.turn_lock.proofs.TurnLemmas.{may_note, may_pass_on, rests_again, Left, left}
use Rattle.turn_lock.proofs.lock.TurnLock.leave.Given.{Over}
use Rattle.turn_lock.proofs.lock.TurnLock.leave.Goals as goal

pub note-requires-clause-grown : goal.note-requires-clause-grown
note-requires-clause-grown g c = may_note g.V.Grows.items g.V.Grows.by g.V.Grows.name _ _ _ _ _ c.into_parts-seat.ensures c.put.ensures.held _ c.requires.grown c.requires.room c.count-count.ensures

pub pass_on-requires-clause-seen : goal.pass_on-requires-clause-seen
pass_on-requires-clause-seen g c = may_pass_on g.V.Grows.items g.V.Grows.by g.V.Grows.name _ _ _ _ _ c.into_parts-seat.ensures c.put.ensures.held _ c.note.ensures.noted
    (c.requires.name ∙ sym (ap (λ (l : LockId g.row.V-Name.Denot). l.name) c.requires.lock))

pub of-requires : goal.of-requires
of-requires g c = rw c.number-number.ensures (rests_again g.V.Grows.items g.V.Grows.by g.V.Grows.name _ _ _ _ _ c.into_parts-seat.ensures c.put.ensures.held _ _ c.note.ensures.noted c.pass_on.ensures.passed)

facts : (g : Over) (c : goal.After-of g) → Left g.V.Grows.items g.V.Grows.by g.V.Grows.name c.args.turn c.into_parts-seat.result.0.table_id c.into_parts-seat.result.0.me c.put.new.seat.me c.into_parts-seat.result.1 c.into_parts-seat.ensures c.put.ensures.held c.of.result
facts g c =
    let same : c.pass_on.new.seat.table_id ≡ c.into_parts-seat.result.0.table_id = c.pass_on.ensures.table ∙ (c.note.ensures.table ∙ c.put.ensures.table) in
    left g.V.Grows.items g.V.Grows.by g.V.Grows.name c.args.turn c.into_parts-seat.result.0.table_id c.into_parts-seat.result.0.me c.put.new.seat.me c.into_parts-seat.result.1 c.into_parts-seat.ensures c.put.ensures.held _ _ c.note.ensures.noted c.pass_on.ensures.passed _ _ same c.of.ensures

pub returns-clause-lock : goal.returns-clause-lock
returns-clause-lock g c = (facts g c).lock

pub returns-clause-number : goal.returns-clause-number
returns-clause-number g c = (facts g c).number

pub returns-clause-seen : goal.returns-clause-seen
returns-clause-seen g c = (facts g c).seen
