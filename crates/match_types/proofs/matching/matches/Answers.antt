use Rattle.std.proofs.lemmas.Bool.Decides.{same_from_decides}
use Rattle.match_types.proofs.Deciding.{meets-decides}
use Rattle.match_types.proofs.matching.matches.Goals as goal

pub returns-clause-test : goal.returns-clause-test
returns-clause-test c = rw (← c.as_slice.ensures, ← c.as_slice-2.ensures) (same_from_decides _ _ c.is_met.ensures (meets-decides _ _ _))
