-- The price of a place (Edelman, Ostrovsky and Schwarz 2007, in the form with quality scores).
use Rattle.std.specs.Prelude.{ℕ, zero, suc, ◌+◌, ◌-◌, ◌*◌, Bool, ◌==◌, ◌&&◌, nat_le, if◌then◌else◌, List, map}
use Rattle.auction_types.specs.AdValue.{AdValue, with_bid, is_same_ad}
use Rattle.auction_types.specs.Page.{place}

-- the entrants with another bid in place of a's own
unfoldable pub with_bid_of : List AdValue → AdValue → ℕ → List AdValue
with_bid_of entered a bid = map (λ b. if is_same_ad b a then with_bid a bid else b) entered

-- whether a would have the same place with this bid
unfoldable pub keeps_place : List AdValue → AdValue → ℕ → Bool
keeps_place entered a bid = place (with_bid_of entered a bid) (with_bid a bid) == place entered a

-- whether a bid is at least the reserve, has a score of at least the floor and keeps a's place
unfoldable pub is_enough : ℕ → ℕ → List AdValue → AdValue → ℕ → Bool
is_enough reserve floor entered a bid =
    nat_le reserve bid && (nat_le floor (bid * a.quality) && keeps_place entered a bid)

-- the first number that passes the test, tried one after another from `from` on, and the last one where no earlier does
unfoldable pub first_passing : (ℕ → Bool) → ℕ → ℕ → ℕ
first_passing test from zero = from
first_passing test from (suc tries) = if test from then from else first_passing test (from + 1) tries

-- the price of an entrant: the least bid that is enough, of which its own bid is the last one tried
unfoldable pub price : ℕ → ℕ → List AdValue → AdValue → ℕ
price reserve floor entered a = first_passing (is_enough reserve floor entered a) reserve (a.bid - reserve)
