use Rattle.std.proofs.Common.{◌-◌, length}
use Rattle.http_api.proofs.HeadEnds.{Passed}
use Rattle.http_api.proofs.head_end.length_through_end.Given as goal

abbrev pub invariant-loop-feed : goal.invariant-loop-feed
invariant-loop-feed l = Passed l.bytes l.passed

abbrev pub decreases-loop-feed : goal.decreases-loop-feed
decreases-loop-feed l = length l.bytes - l.passed
