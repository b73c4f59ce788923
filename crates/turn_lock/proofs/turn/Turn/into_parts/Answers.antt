use Rattle.turn_lock.proofs.SeatLemmas.{turn_shows}
use Rattle.turn_lock.proofs.turn.Turn.into_parts.Goals as goal

pub returns : goal.returns
returns g c = turn_shows _ _ c.self.inside.live _ _ _ c.self.invariant c.self.view_is
