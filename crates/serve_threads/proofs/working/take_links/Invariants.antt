use Rattle.std.proofs.Common.{◌≡◌, ◌≤◌}
use Rattle.serve_threads.specs.Underway.{IsUnderway}
use Rattle.serve_threads.specs.Visits.{LinkSides}
use Rattle.serve_threads.specs.WorkerView.{PartsSeen, worker_view}
use Rattle.serve_threads.proofs.working.take_links.Given as goal

abbrev pub invariant-loop : goal.invariant-loop
invariant-loop g l =
    let seen : PartsSeen _ _ _ _ _ = record { home = g.V.Service.home; service = g.V.Service.service; door = g.D.Door.door; moments = g.C.Clock.moments } in
    let sides : LinkSides _ = record { source = g.D.L.Source.source; sink = g.D.L.Sink.sink } in
    record {
      underway : IsUnderway sides l.host_key (worker_view seen l.fn.worker) (worker_view seen l.worker);
      shut : (g.D.Door.door l.worker.door).shut ≡ (g.D.Door.door l.fn.worker.door).shut;
      faults : (g.D.Door.door l.fn.worker.door).faults ≤ (g.D.Door.door l.worker.door).faults;
      sessions : l.worker.sessions ≡ l.counter;
    }
