use Rattle.std.proofs.Common.{length, ap, arith}
use Rattle.desk_server.proofs.Leavers.{none_dismissed}
use Rattle.desk_server.proofs.dismissing.dismiss.Goals as goal

pub loop-workers-init : goal.loop-workers-init
loop-workers-init g c =
    let passes = ap length c.requires.no_passes in
    let doors = ap length c.requires.no_doors in (
      rw c.requires.no_passes (rw c.requires.no_doors (none_dismissed c.args.workers.items)),
      omega (arith, c.args.passes.now.ok.0, passes, c.requires.passes_room),
      omega (arith, c.args.doors.now.ok.0, doors, c.requires.doors_room),
    )
