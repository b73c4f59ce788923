use Rattle.std.proofs.Common.{◌≡◌, ◌+◌, List, length, map, take}
use Rattle.auction_types.specs.AdValue.{AdValue}
use Rattle.desk_types.specs.Changes.{all_placed}
use Rattle.desk_core.specs.Shown.{AreRankedFrom}
use Rattle.desk_core.proofs.ledger.Ledger.placed.Given as goal

abbrev pub invariant-loop-index : goal.invariant-loop-index
invariant-loop-index l =
    (entered : List AdValue) → AreRankedFrom entered l.page → l.placements.items ≡ all_placed l.self.state entered (length l.self.state.tables.placements + 1) (map (λ r. r.ad) (take l.index l.page))
