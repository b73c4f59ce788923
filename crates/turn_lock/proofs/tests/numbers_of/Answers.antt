use Rattle.turn_lock.proofs.AllPasses.{all_of_new}
use Rattle.turn_lock.proofs.tests.numbers_of.Goals as goal

pub end-requires : goal.end-requires
end-requires g c = all_of_new _ _ _ c.in-Ok.ensures.passes c.add_all-passes.ensures.same
