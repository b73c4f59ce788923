use Rattle.match_types.proofs.Phrases.{IsMissingBelow}
use Rattle.match_types.proofs.matching.has_phrase.Given as goal

abbrev pub invariant-loop-start : goal.invariant-loop-start
invariant-loop-start l = IsMissingBelow l.phrase l.words l.start
