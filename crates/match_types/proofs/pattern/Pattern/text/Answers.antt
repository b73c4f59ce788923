use Rattle.std.proofs.Common.{◌≡◌, List, ℕ, None, subst}
use Rattle.match_types.specs.Pattern.{negative_refusal, negative_text}
use Rattle.match_types.proofs.Causes.{negative-pattern}
use Rattle.match_types.proofs.pattern.Pattern.text.Goals as goal

pub returns-clause-reads_again_as_negative : goal.returns-clause-reads_again_as_negative
returns-clause-reads_again_as_negative c =
    subst (λ (t : List ℕ). (negative_refusal t ≡ None) × (negative_text t ≡ t)) c.self.view_is (negative-pattern _ c.self.invariant.pattern)
