use Rattle.std.proofs.Common.{◌≡◌, map, take}
use Rattle.desk_types.specs.Opening.{greatest}
use Rattle.desk_types.proofs.tables.latest_setting.Given as goal

-- the greatest of the moments so far
abbrev pub invariant-loop-row : goal.invariant-loop-row
invariant-loop-row l = l.latest ≡ greatest (map (λ b. b.at) (take l.row-index l.budgets))
