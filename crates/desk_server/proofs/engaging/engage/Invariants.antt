use Rattle.std.proofs.Common.{◌≡◌, ◌≤◌, ◌+◌, [], vec_len, vec_capacity}
use Rattle.desk_server.proofs.Joiners.{IsEngaging, staff}
use Rattle.desk_server.proofs.engaging.engage.Given as goal

abbrev pub invariant-loop-passes : goal.invariant-loop-passes
invariant-loop-passes g l =
    IsEngaging l.hall.id (staff l.fn.passes.items l.fn.doors.items l.fn.clocks.items [])
    (staff l.passes.items l.doors.items l.clocks.items l.workers.items)
    × (vec_len l.workers + vec_len l.passes ≤ vec_capacity l.workers)
    × (vec_capacity l.passes ≡ vec_capacity l.fn.passes) × (vec_capacity l.doors ≡ vec_capacity l.fn.doors)

abbrev pub decreases-loop-passes : goal.decreases-loop-passes
decreases-loop-passes g l = vec_len l.passes
