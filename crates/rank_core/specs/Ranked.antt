-- The page, each ad with the entrant next below it.
use Rattle.std.specs.Prelude.{◌≡◌, ℕ, List, map, IfSome, IsTrue, Contains}
use Rattle.auction_types.specs.AdValue.{AdValue}
use Rattle.auction_types.specs.Order.{better}
use Rattle.auction_types.specs.Page.{entrants, page, next_below}
use Rattle.rank_core.specs.declared.page.Ranked.{Ranked}

-- the ads of the page for n places, in order of place, each with the entrant next below it
unfoldable pub ranked : List AdValue → ℕ → List Ranked
ranked entered n = map (λ a. record { ad = a; next = next_below entered a }) (page entered n)

-- an ad of the list that is an entrant, with the entrant next below it
pub record IsRankedAmong (ads : List AdValue) (r : Ranked) : Type 0 where
  pub among_ads : Contains ads r.ad
  pub entrant : Contains (entrants ads) r.ad
  pub next : next_below (entrants ads) r.ad ≡ r.next
  pub ahead : IfSome r.next (λ below. IsTrue (better r.ad below))
