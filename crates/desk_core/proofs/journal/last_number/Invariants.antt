use Rattle.std.proofs.Common.{length}
use Rattle.desk_core.proofs.Numbers.{IsLeft}
use Rattle.desk_core.proofs.journal.last_number.Given as goal

abbrev pub invariant-loop-last : goal.invariant-loop-last
invariant-loop-last l = IsLeft l.caller l.entries l.rest

abbrev pub decreases-loop-last : goal.decreases-loop-last
decreases-loop-last l = length l.rest
