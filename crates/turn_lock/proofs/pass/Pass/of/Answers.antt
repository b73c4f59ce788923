use Rattle.turn_lock.proofs.SeatLemmas.{pass_made}
use Rattle.turn_lock.proofs.pass.Pass.of.Goals as goal

pub returns : goal.returns
returns g c = pass_made _ _ _ _ c.requires
