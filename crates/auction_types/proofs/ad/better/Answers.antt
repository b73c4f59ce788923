use Rattle.std.proofs.Common.{arith}
use Rattle.std.proofs.lemmas.Bool.Decides.{nat_tests}
use Rattle.auction_types.specs.Order.{better}
use Rattle.auction_types.proofs.ad.better.Goals as goal

pub returns-then-score : goal.returns-then-score
unfolding better
returns-then-score c = grind (arith, nat_tests)

pub returns : goal.returns
unfolding better
returns c = grind (arith, nat_tests)
