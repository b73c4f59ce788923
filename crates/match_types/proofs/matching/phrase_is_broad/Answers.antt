use Rattle.std.proofs.Common.{◌+◌, length, arith}
use Rattle.std.proofs.lemmas.Grind.{common_steps}
use Rattle.match_types.proofs.matching.phrase_is_broad.Goals as goal

pub returns : goal.returns
returns c = λ (before, after, laid) k d low. (length before + k, grind (arith, common_steps, laid), grind (arith, common_steps, laid))
