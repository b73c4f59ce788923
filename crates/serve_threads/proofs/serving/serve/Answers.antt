use Rattle.std.proofs.Common.{subst, slice_index_or}
use Rattle.serve_threads.specs.declared.worker.Worker.{Worker}
use Rattle.serve_threads.specs.Visits.{LinkSides}
use Rattle.serve_threads.specs.WorkerView.{PartsSeen, worker_view}
use Rattle.serve_threads.specs.Working.{HasWorked}
use Rattle.serve_threads.proofs.Zips.{zip_each}
use Rattle.serve_threads.proofs.serving.serve.Goals as goal

pub returns : goal.returns
returns g c =
    let seen : PartsSeen _ _ _ _ _ = record { home = g.V.Service.home; service = g.V.Service.service; door = g.D.Door.door; moments = g.C.Clock.moments } in
    let sides : LinkSides _ = record { source = g.D.L.Source.source; sink = g.D.L.Sink.sink } in
    let R : Worker _ _ _ → Worker _ _ _ → Type 0 = λ before after. HasWorked sides c.args.host_key.now c.args.sessions (worker_view seen before) (worker_view seen after) in
    let before = c.args.workers.now in
    let after = c.for_each_mut.new.s in
    record {
      worked = zip_each R before after c.for_each_mut.auto.s
          (λ i d h.
          let at = (c.for_each_mut.ensures i d h).1 in
          subst (λ y. R (slice_index_or before i d) y) {y = slice_index_or after i d} at.left (subst (λ x. R x at.after_call.now) at.argument_is at.call));
    }
