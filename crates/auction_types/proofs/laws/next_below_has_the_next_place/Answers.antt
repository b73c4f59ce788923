use Rattle.auction_types.proofs.Pages.{next_below-law}
use Rattle.auction_types.proofs.laws.next_below_has_the_next_place.Goals as goal

pub returns : goal.returns
returns c = next_below-law
