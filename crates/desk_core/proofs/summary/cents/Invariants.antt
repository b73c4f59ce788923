use Rattle.std.proofs.Common.{◌≡◌, take}
use Rattle.desk_types.specs.Summary.{cents_of}
use Rattle.desk_core.proofs.summary.cents.Given as goal

abbrev pub invariant-loop-row : goal.invariant-loop-row
invariant-loop-row l = l.cents ≡ cents_of (take l.row-index l.rows)
