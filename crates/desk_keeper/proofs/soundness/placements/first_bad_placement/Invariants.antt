use Rattle.std.proofs.Common.{◌≡◌, [], take, None}
use Rattle.desk_types.specs.Opening.{latest}
use Rattle.desk_types.specs.Rules.{first_bad, placement_rules}
use Rattle.desk_keeper.specs.DayTotals.{AreTotals}
use Rattle.desk_keeper.proofs.soundness.placements.first_bad_placement.Given as goal

abbrev pub invariant-loop-i : goal.invariant-loop-i
invariant-loop-i l =
    (first_bad 6 (placement_rules l.tables) [] (take l.i l.rows) ≡ None)
    × AreTotals l.charges (take l.i l.rows)
    × (l.charges.moment ≡ latest l.tables)
