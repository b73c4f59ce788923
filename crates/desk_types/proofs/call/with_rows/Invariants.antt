use Rattle.std.proofs.Common.{◌≡◌, ◌+◌, ◌-◌, ◌^◌, min, take, sum_by}
use Rattle.desk_types.specs.Weight.{row_weight}
use Rattle.desk_types.proofs.call.with_rows.Given as goal

abbrev pub invariant-loop-row : goal.invariant-loop-row
invariant-loop-row l = l.whole ≡ min (l.sum + sum_by row_weight (take l.row-index l.rows)) (2 ^ 64 - 1)
