use Rattle.auction_types.proofs.Pages.{page-first_places}
use Rattle.auction_types.proofs.laws.page_has_the_first_places.Goals as goal

pub returns : goal.returns
returns c = page-first_places
