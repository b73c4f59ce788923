-- The list of the best entrants.
use Rattle.std.specs.Prelude.{◌≡◌, List, All}
use Rattle.auction_types.specs.AdValue.{AdValue, IsInRange}
use Rattle.auction_types.specs.Page.{entrants, page}

-- the entrants of the ads offered so far that have the places 1 to 9, in order of place
pub record IsTopOf (offered leading : List AdValue) : Type 0 where
  pub in_range : All IsInRange offered
  pub first_nine : leading ≡ page (entrants offered) 9
