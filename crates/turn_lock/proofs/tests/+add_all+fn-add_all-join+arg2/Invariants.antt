use Rattle.std.proofs.Common.{◌+◌, ◌*◌, vec_len}
use Rattle.turn_lock.proofs.tests.+add_all+fn-add_all-join+arg2.Given as goal

abbrev pub decreases-add_all : goal.decreases-add_all
decreases-add_all g l = 2 * vec_len l.passes + 1

abbrev pub decreases-join+arg2 : goal.decreases-join+arg2
decreases-join+arg2 g l = 2 * vec_len l.passes + 2
