use Rattle.std.proofs.Common.{length}
use Rattle.http_api.proofs.HeadEnds.{Blank}
use Rattle.http_api.proofs.head_end.blank_length.Given as goal

abbrev pub invariant-loop-more : goal.invariant-loop-more
invariant-loop-more l = Blank l.bytes l.rest

abbrev pub decreases-loop-more : goal.decreases-loop-more
decreases-loop-more l = length l.rest
