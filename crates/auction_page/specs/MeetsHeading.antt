-- Ads that meet a heading.
use Rattle.std.specs.Prelude.{◌≡◌, ◌≤◌, List, [], All, Option, Some, None}
use Rattle.auction_types.specs.AdValue.{AdValue, score}
use Rattle.auction_page.specs.HeadingValue.{HeadingValue}

-- the ad's bid is at least the reserve, and its score at least the floor
abbrev pub MeetsHeading : HeadingValue → AdValue → Type 0
MeetsHeading heading ad = (heading.reserve ≤ ad.bid) × (heading.floor ≤ score ad)

-- each ad meets the heading; before the heading there is none
abbrev pub AllMeet : Option HeadingValue → List AdValue → Type 0
AllMeet None ads = ads ≡ []
AllMeet (Some heading) ads = All (MeetsHeading heading) ads
