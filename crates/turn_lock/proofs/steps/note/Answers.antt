use Rattle.std.proofs.Common.{rules}
use Rattle.turn_lock.proofs.StepKeeps.{may_note}
use Rattle.turn_lock.proofs.steps.note.Goals as goal

pub swap-requires : goal.swap-requires
swap-requires g c = (search rules, search rules, may_note _ _ _ _ _ _ _ _ _ c.requires.grown)
