-- Entrants, places and the page.
use Rattle.std.specs.Prelude.{◌≢◌, ℕ, zero, suc, ◌+◌, Bool, ◌==◌, ◌&&◌, not, if◌then◌else◌, List, [], ◌∷◌, ◌++◌, Option, filter, count_by, find, AllPairs}
use Rattle.std.specs.List.{list_any}
use Rattle.auction_types.specs.AdValue.{AdValue, is_same_ad}
use Rattle.auction_types.specs.Order.{better}

-- the ads of a list, each once
unfoldable pub distinct : List AdValue → List AdValue
distinct [] = []
distinct (a ∷ ads) = if list_any (is_same_ad a) ads then distinct ads else a ∷ distinct ads

-- whether no ad of the list that is of a's account is better than a
unfoldable pub is_best_of_account : List AdValue → AdValue → Bool
is_best_of_account ads a = not (list_any (λ b. b.account == a.account && better b a) ads)

-- the entrants: for each account its ad than which no other ad of it is better
unfoldable pub entrants : List AdValue → List AdValue
entrants ads = distinct (filter (is_best_of_account ads) ads)

-- whether no two ads of the list are of one account
abbrev pub AreOfDifferentAccounts : List AdValue → Type 0
AreOfDifferentAccounts ads = AllPairs (λ a b. a.account ≢ b.account) ads

-- the place of an ad among entrants: one more than the number of better ones
unfoldable pub place : List AdValue → AdValue → ℕ
place entered a = count_by (λ b. better b a) entered + 1

-- the entrants with this place
unfoldable pub at_place : List AdValue → ℕ → List AdValue
at_place entered k = filter (λ a. place entered a == k) entered

-- the page: the entrants with places up to n, in order of place
unfoldable pub page : List AdValue → ℕ → List AdValue
page entered zero = []
page entered (suc n) = page entered n ++ at_place entered (suc n)

-- the entrant whose place is the next after a's, if there is one
unfoldable pub next_below : List AdValue → AdValue → Option AdValue
next_below entered a = find (λ b. place entered b == place entered a + 1) entered
