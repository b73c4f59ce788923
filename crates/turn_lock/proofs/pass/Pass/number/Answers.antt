use Rattle.turn_lock.proofs.SeatLemmas.{pass_number}
use Rattle.turn_lock.proofs.pass.Pass.number.Goals as goal

pub returns : goal.returns
returns g c = pass_number _ _ c.self.inside.live _ _ c.self.invariant c.self.view_is
