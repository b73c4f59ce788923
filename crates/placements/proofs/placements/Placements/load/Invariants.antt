use Rattle.std.proofs.Common.{◌≡◌, take}
use Rattle.placements.proofs.placements.Placements.load.Given as goal

-- the rows so far are shown
abbrev pub invariant-loop-row : goal.invariant-loop-row
invariant-loop-row l = l.placements.rows ≡ take l.row-index l.row-items
