use Rattle.turn_lock.proofs.AllPasses.{all_of_new}
use Rattle.hall_tests.proofs.in_turn.two_callers_are_numbered_apart_and_a_fault_is_the_callers.Goals as goal

pub closed-requires : goal.closed-requires
closed-requires g c = all_of_new _ _ _ c.in-Ok.ensures.passes c.in-Some.ensures
