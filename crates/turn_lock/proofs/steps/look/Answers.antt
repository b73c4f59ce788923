use Rattle.std.proofs.Common.{rules}
use Rattle.turn_lock.proofs.StepKeeps.{may_look, looked}
use Rattle.turn_lock.proofs.steps.look.Goals as goal

pub load-requires : goal.load-requires
load-requires g c = (search rules, search rules, may_look _ _ _ _ _ _ _ _ _ c.requires.waits)

pub returns-clause-inside : goal.returns-clause-inside
returns-clause-inside g c = looked _ _ _ _ _ _ _ c.requires.waits c.load.ensures.2
