use Rattle.std.proofs.Common.{◌≡◌}
use Rattle.hall_tests.proofs.on_threads.call_all.Given as goal

abbrev pub invariant-loop-number : goal.invariant-loop-number
invariant-loop-number g l = (l.caller.home ≡ l.fn.pass.lock) × (l.caller.service.me ≡ l.fn.pass.number)
