use Rattle.std.proofs.Common.{rules}
use Rattle.turn_lock.proofs.StepKeeps.{may_pass_on}
use Rattle.turn_lock.proofs.steps.pass_on.Goals as goal

pub fetch_add-requires : goal.fetch_add-requires
fetch_add-requires g c = (search rules, search rules, may_pass_on _ _ _ _ _ _ _ _ c.requires.seen)
