use Rattle.auction_types.proofs.PriceLemmas.{price-least_price}
use Rattle.auction_types.proofs.laws.price_is_the_least_that_keeps_the_place.Goals as goal

pub returns : goal.returns
returns c = price-least_price
