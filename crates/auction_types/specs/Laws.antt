-- What entrants, pages and prices are, in the words of the subject.
use Rattle.std.specs.Prelude.{◌≡◌, ℕ, ◌+◌, ◌*◌, ◌≤◌, min, false, List, Some, length, IsTrue, Contains, slice_get}
use Rattle.auction_types.specs.AdValue.{AdValue, with_bid}
use Rattle.auction_types.specs.Order.{better}
use Rattle.auction_types.specs.Page.{AreOfDifferentAccounts, place}
use Rattle.auction_types.specs.Price.{with_bid_of}

-- the best ad of each account that has one
pub record AreBestOfAccounts (ads entered : List AdValue) : Type 0 where
  pub different_accounts : AreOfDifferentAccounts entered
  pub among_ads : (a : AdValue) → Contains entered a → Contains ads a
  pub best : (a b : AdValue) → Contains entered a → Contains ads b → b.account ≡ a.account → better b a ≡ false
  pub each_account : (b : AdValue) → Contains ads b → (a : AdValue) × Contains entered a × (a.account ≡ b.account)

-- the first n entrants, in order of place
pub record AreFirstPlaces (entered : List AdValue) (n : ℕ) (ads : List AdValue) : Type 0 where
  pub all_there : length ads ≡ min n (length entered)
  pub among_entrants : (a : AdValue) → Contains ads a → Contains entered a
  pub places : (k : ℕ) (a : AdValue) → slice_get ads k ≡ Some a → place entered a ≡ k + 1
  pub above_the_rest : (a b : AdValue) → Contains ads a → Contains entered b → ¬ Contains ads b → IsTrue (better a b)

-- the entrant next below a, if there is one
pub record IsNextBelow (entered : List AdValue) (a b : AdValue) : Type 0 where
  pub entrant : Contains entered b
  pub below : IsTrue (better a b)
  pub place : place entered b ≡ place entered a + 1

-- the least number that is at least the reserve, has a score of at least the floor and keeps a's place as its bid
pub record IsLeastPrice (reserve floor : ℕ) (entered : List AdValue) (a : AdValue) (price : ℕ) : Type 0 where
  pub at_most_bid : price ≤ a.bid
  pub at_least_reserve : reserve ≤ price
  pub meets_floor : floor ≤ price * a.quality
  pub keeps_place : place (with_bid_of entered a price) (with_bid a price) ≡ place entered a
  pub least : (bid : ℕ) → reserve ≤ bid → floor ≤ bid * a.quality →
      place (with_bid_of entered a bid) (with_bid a bid) ≡ place entered a → price ≤ bid
