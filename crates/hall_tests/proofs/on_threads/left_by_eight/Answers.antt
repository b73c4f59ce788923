use Rattle.turn_lock.proofs.AllPasses.{all_of_new}
use Rattle.hall_tests.proofs.on_threads.left_by_eight.Goals as goal

pub closed-requires : goal.closed-requires
closed-requires g c = all_of_new _ _ _ c.in-Ok.ensures.passes c.call_all_at_once-passes.ensures.same
