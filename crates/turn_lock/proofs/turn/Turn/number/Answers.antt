use Rattle.turn_lock.proofs.SeatLemmas.{turn_number}
use Rattle.turn_lock.proofs.turn.Turn.number.Goals as goal

pub returns : goal.returns
returns g c = turn_number _ _ c.self.inside.live _ _ _ c.self.invariant c.self.view_is
