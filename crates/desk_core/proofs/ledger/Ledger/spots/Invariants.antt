use Rattle.std.proofs.Common.{◌≡◌, map, take}
use Rattle.desk_types.specs.Changes.{spot_of}
use Rattle.desk_core.proofs.ledger.Ledger.spots.Given as goal

abbrev pub invariant-loop-placement : goal.invariant-loop-placement
invariant-loop-placement l = l.spots.items ≡ map (spot_of l.self.state.tables) (take l.placement-index l.placements)
