use Rattle.auction_types.proofs.Entrants.{entrants-are_best}
use Rattle.auction_types.proofs.laws.entrants_are_the_best_of_their_accounts.Goals as goal

pub returns : goal.returns
returns c = entrants-are_best
