use Rattle.std.proofs.Common.{rules}
use Rattle.std.proofs.lemmas.Bool.Decides.{same_from_decides}
use Rattle.match_types.specs.Pattern.{IsSamePattern}
use Rattle.match_types.proofs.Deciding.{is_same_pattern-decides}
use Rattle.match_types.proofs.pattern.Pattern.is_same.Goals as goal

pub returns-then-eq-clause-test : goal.returns-then-eq-clause-test
returns-then-eq-clause-test c =
    same_from_decides {P = IsSamePattern c.args.self.now c.args.other.now} _ _ (search rules) (is_same_pattern-decides _ _)

pub returns-else-eq-clause-test : goal.returns-else-eq-clause-test
returns-else-eq-clause-test c =
    same_from_decides {P = IsSamePattern c.args.self.now c.args.other.now} _ _ (search rules) (is_same_pattern-decides _ _)
