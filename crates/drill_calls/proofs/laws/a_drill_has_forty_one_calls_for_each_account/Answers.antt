use Rattle.drill_calls.proofs.Counting.{forty-one}
use Rattle.drill_calls.proofs.laws.a_drill_has_forty_one_calls_for_each_account.Goals as goal

pub returns : goal.returns
returns c = forty-one
