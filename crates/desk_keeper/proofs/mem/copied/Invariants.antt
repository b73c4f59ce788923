use Rattle.std.proofs.Common.{◌≡◌, take}
use Rattle.desk_keeper.proofs.mem.copied.Given as goal

-- the changes so far are copied
abbrev pub invariant-loop-change : goal.invariant-loop-change
invariant-loop-change l = l.copies.items ≡ take l.change-index l.changes
