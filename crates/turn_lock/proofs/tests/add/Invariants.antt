use Rattle.turn_lock.specs.Passes.{IsSameCaller}
use Rattle.turn_lock.proofs.tests.add.Given as goal

abbrev pub invariant-loop : goal.invariant-loop
invariant-loop g l = IsSameCaller l.fn.pass l.pass
