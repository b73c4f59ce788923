use Rattle.turn_lock.proofs.SeatLemmas.{turn_made}
use Rattle.turn_lock.proofs.turn.Turn.of.Goals as goal

pub returns : goal.returns
returns g c = turn_made _ _ _ _ _ c.requires
