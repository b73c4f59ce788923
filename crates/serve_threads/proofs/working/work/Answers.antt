use Rattle.serve_threads.specs.Visits.{LinkSides}
use Rattle.serve_threads.specs.WorkerView.{PartsSeen, worker_view}
use Rattle.serve_threads.proofs.Steps.{worked-whole}
use Rattle.serve_threads.proofs.working.work.Goals as goal

pub returns : goal.returns
returns g c =
    let seen : PartsSeen _ _ _ _ _ = record { home = g.V.Service.home; service = g.V.Service.service; door = g.D.Door.door; moments = g.C.Clock.moments } in
    let sides : LinkSides _ = record { source = g.D.L.Source.source; sink = g.D.L.Sink.sink } in
    let left = c.take_links-worker.new.worker in
    record {
      worked = worked-whole sides c.args.host_key.now c.args.sessions (worker_view seen c.args.worker.now) (worker_view seen left) c.take_links-worker.result
          c.take_links-worker.ensures.underway c.history_is_legal.ensures.legal c.take_links-worker.ensures.stopped;
    }
