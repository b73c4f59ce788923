use Rattle.std.proofs.Common.{ℕ, ◌≤◌, length}
use Rattle.placements.specs.Linked.{IsLast, is_of}
use Rattle.placements.proofs.Walking.{IsSoFar}
use Rattle.placements.proofs.placements.Placements.on_day.Given as goal

abbrev pub invariant-loop-number : goal.invariant-loop-number
invariant-loop-number l =
    (l.number ≤ length l.self.rows)
    × ((account bound : ℕ) → bound ≤ length l.self.rows → IsLast (is_of account) l.fn.from bound l.self.rows → IsSoFar account l.day l.number bound l.self.rows)

abbrev pub decreases-loop-number : goal.decreases-loop-number
decreases-loop-number l = l.number
