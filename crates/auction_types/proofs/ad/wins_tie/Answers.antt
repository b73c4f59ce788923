use Rattle.std.proofs.Common.{arith}
use Rattle.std.proofs.lemmas.Bool.Decides.{nat_tests}
use Rattle.auction_types.specs.Order.{wins_tie, has_smaller_triple}
use Rattle.auction_types.proofs.ad.wins_tie.Goals as goal

pub returns-then-a-b : goal.returns-then-a-b
unfolding wins_tie
returns-then-a-b c = grind (arith, nat_tests)

pub returns : goal.returns
unfolding wins_tie has_smaller_triple
returns c = grind (arith, nat_tests, c.lt.ensures)
