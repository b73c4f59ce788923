-- When a bid is enough for a place.
use Rattle.std.specs.Prelude.{ℕ, ◌*◌, ◌≤◌, Option, IsTrue}
use Rattle.auction_types.specs.AdValue.{AdValue, with_bid}
use Rattle.auction_types.specs.Order.{stays_ahead}

-- a bid meets reserve and floor, and with it the ad stays better than the one next below
pub record IsEnough (reserve floor : ℕ) (a : AdValue) (next : Option AdValue) (bid : ℕ) : Type 0 where
  pub meets_reserve : reserve ≤ bid
  pub meets_floor : floor ≤ bid * a.quality
  pub ahead : IsTrue (stays_ahead (with_bid a bid) next)
