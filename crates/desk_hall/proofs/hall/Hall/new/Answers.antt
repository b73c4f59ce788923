use Rattle.desk_hall.proofs.Passes.{legal_new}
use Rattle.desk_hall.proofs.hall.Hall.new.Goals as goal

pub returns-in-Ok-clause-legal : goal.returns-in-Ok-clause-legal
returns-in-Ok-clause-legal g c = legal_new _ _ c.in-Ok.ensures.passes
