use Rattle.std.proofs.Common.{◌≤◌, ◌+◌, vec_len, vec_capacity}
use Rattle.desk_server.proofs.Leavers.{IsDismissing}
use Rattle.desk_server.proofs.dismissing.dismiss.Given as goal

abbrev pub invariant-loop-workers : goal.invariant-loop-workers
invariant-loop-workers g l =
    IsDismissing l.fn.workers.items l.workers.items l.passes.items l.doors.items l.totals
    × (vec_len l.passes + vec_len l.workers ≤ vec_capacity l.passes)
    × (vec_len l.doors + vec_len l.workers ≤ vec_capacity l.doors)

abbrev pub decreases-loop-workers : goal.decreases-loop-workers
decreases-loop-workers g l = vec_len l.workers
