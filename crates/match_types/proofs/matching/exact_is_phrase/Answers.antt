use Rattle.std.proofs.Common.{[], ◌∙◌, sym, append-nil}
use Rattle.match_types.proofs.matching.exact_is_phrase.Goals as goal

pub returns : goal.returns
returns c = λ exact. ([], [], exact ∙ sym (append-nil c.args.pattern.now))
