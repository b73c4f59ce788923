use Rattle.std.proofs.Common.{◌≡◌, map, take}
use Rattle.desk_types.specs.Opening.{greatest, placement_moment}
use Rattle.desk_types.proofs.tables.latest_showing.Given as goal

-- the greatest of the moments so far
abbrev pub invariant-loop-row : goal.invariant-loop-row
invariant-loop-row l = l.latest ≡ greatest (map placement_moment (take l.row-index l.placements))
