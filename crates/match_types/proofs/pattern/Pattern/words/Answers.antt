use Rattle.std.proofs.Common.{◌≤◌, List, ℕ, length, subst, sym}
use Rattle.match_types.specs.declared.reading.TheConstants.{PATTERN_WORDS}
use Rattle.match_types.proofs.Causes.{length-words_in}
use Rattle.match_types.proofs.pattern.Pattern.words.Goals as goal

pub returns-clause-some : goal.returns-clause-some
returns-clause-some c = subst (λ (w : List (List ℕ)). 1 ≤ length w) (sym c.self.invariant.words_are) (length-words_in _ c.self.invariant.pattern).0

pub returns-clause-few : goal.returns-clause-few
returns-clause-few c = subst (λ (w : List (List ℕ)). length w ≤ PATTERN_WORDS) (sym c.self.invariant.words_are) (length-words_in _ c.self.invariant.pattern).1
