use Rattle.std.proofs.Common.{◌≡◌, ap, sym, ◌∙◌}
use Rattle.turn_lock.specs.LockValues.{LockId}
use Rattle.turn_lock.proofs.TurnLemmas.{drawn_looks, came_in, took_out, Entered, entered}
use Rattle.turn_lock.proofs.lock.TurnLock.enter.Given.{Over}
use Rattle.turn_lock.proofs.lock.TurnLock.enter.Goals as goal

pub wait-requires-clause-waits : goal.wait-requires-clause-waits
wait-requires-clause-waits g c = drawn_looks _ _ _ _ c.into_seat-seat.ensures.seat c.draw-ticket.ensures.drawn

pub take-value-requires-clause-held : goal.take-value-requires-clause-held
take-value-requires-clause-held g c =
    let e = came_in g.V.Grows.items g.V.Grows.by g.V.Grows.name _ _ _ _ _ c.into_seat-seat.ensures.seat c.draw-ticket.ensures.drawn c.wait.ensures.inside in
    (e.enters.value, ap (λ m. m.1) e.enters.out)

pub of-requires : goal.of-requires
of-requires g c = rw c.number-number.ensures (took_out _ _ _ _ _ _ _ _ _ c.into_seat-seat.ensures.seat c.draw-ticket.ensures.drawn c.wait.ensures.inside c.take-value.ensures.left)

facts : (g : Over) (c : goal.After-of g) → Entered g.V.Grows.items g.V.Grows.by g.V.Grows.name c.args.pass c.of.result c.take-value.result
facts g c =
    let same : c.take-value.new.seat.table_id ≡ c.into_seat-seat.result.table_id = c.take-value.ensures.table ∙ (c.wait.ensures.table ∙ c.draw-ticket.ensures.table) in
    entered _ _ _ _ _ _ _ _ _ _ _ _ _ c.into_seat-seat.ensures c.draw-ticket.ensures.drawn c.wait.ensures.inside c.take-value.ensures.value c.take-value.ensures.left same c.of.ensures

pub returns-clause-lock : goal.returns-clause-lock
returns-clause-lock g c = (facts g c).lock

pub returns-clause-number : goal.returns-clause-number
returns-clause-number g c = (facts g c).number

pub returns-clause-found : goal.returns-clause-found
returns-clause-found g c = (facts g c).found ∙ ap g.V.Grows.items (sym (facts g c).value_is)

pub returns-clause-name : goal.returns-clause-name
returns-clause-name g c = ap g.V.Grows.name (facts g c).value_is ∙ ((facts g c).named ∙ ap (λ (l : LockId g.row.V-Name.Denot). l.name) c.requires.lock)

pub returns-clause-seen : goal.returns-clause-seen
returns-clause-seen g c = (facts g c).prefix

pub returns-clause-own : goal.returns-clause-own
returns-clause-own g c = (facts g c).own
