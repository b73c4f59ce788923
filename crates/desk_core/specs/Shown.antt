-- What is known of the ads of a page where they are priced and placed.
use Rattle.std.specs.Prelude.{◌≡◌, ℕ, ◌+◌, ◌<◌, ◌≤◌, List, length, All, Contains, IfSome, IsTrue, is_some}
use Rattle.std.specs.List.{slice_index_or}
use Rattle.desk_types.specs.declared.rows.Placement.{Placement}
use Rattle.desk_types.specs.declared.tables.Tables.{Tables}
use Rattle.auction_types.specs.AdValue.{AdValue, score}
use Rattle.auction_types.specs.Order.{better}
use Rattle.auction_types.specs.Page.{AreOfDifferentAccounts, next_below, place}
use Rattle.desk_types.specs.State.{State}
use Rattle.desk_types.specs.Tables.{line_of}
use Rattle.rank_core.specs.declared.page.Ranked.{Ranked}

-- the ad meets reserve and floor, and is better than the one next below it
pub record CanBePriced (S : State) (r : Ranked) : Type 0 where
  pub reserve : S.settings.reserve ≤ r.ad.bid
  pub floor : S.settings.floor ≤ score r.ad
  pub ahead : IfSome r.next (λ below. IsTrue (better r.ad below))

-- entrants of different accounts, each with the one next below it, in the order of their places from 1 on
pub record AreRankedFrom (entered : List AdValue) (page : List Ranked) : Type 0 where
  pub different_accounts : AreOfDifferentAccounts entered
  pub entrants : All (λ r. Contains entered r.ad) page
  pub nexts : All (λ r. next_below entered r.ad ≡ r.next) page
  pub places : (k : ℕ) (r : Ranked) → k < length page → place entered (slice_index_or page k r).ad ≡ k + 1

-- the line of a placement is there
abbrev pub HasLine : Tables → Placement → Type 0
HasLine T p = IsTrue (is_some (line_of T p.account p.line))
