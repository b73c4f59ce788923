use Rattle.turn_lock.proofs.SeatLemmas.{pass_shows}
use Rattle.turn_lock.proofs.pass.Pass.into_seat.Goals as goal

pub returns : goal.returns
returns g c = pass_shows _ _ c.self.inside.live _ _ c.self.invariant c.self.view_is
