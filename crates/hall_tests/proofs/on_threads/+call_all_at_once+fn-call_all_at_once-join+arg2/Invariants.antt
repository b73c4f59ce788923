use Rattle.std.proofs.Common.{◌+◌, ◌*◌, vec_len}
use Rattle.hall_tests.proofs.on_threads.+call_all_at_once+fn-call_all_at_once-join+arg2.Given as goal

abbrev pub decreases-call_all_at_once : goal.decreases-call_all_at_once
decreases-call_all_at_once g l = 2 * vec_len l.passes + 1

abbrev pub decreases-join+arg2 : goal.decreases-join+arg2
decreases-join+arg2 g l = 2 * vec_len l.passes + 2
