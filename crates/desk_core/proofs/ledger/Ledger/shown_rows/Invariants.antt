use Rattle.std.proofs.Common.{◌≡◌, map, take}
use Rattle.desk_types.specs.Reports.{shown_row}
use Rattle.desk_core.proofs.ledger.Ledger.shown_rows.Given as goal

abbrev pub invariant-loop-placement : goal.invariant-loop-placement
invariant-loop-placement l = l.rows.items ≡ map (shown_row l.self.state.moment) (take l.placement-index l.placements)
