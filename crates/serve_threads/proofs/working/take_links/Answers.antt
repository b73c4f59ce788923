use Rattle.std.proofs.Common.{refl, arith}
use Rattle.serve_threads.specs.Visits.{LinkSides}
use Rattle.serve_threads.specs.WorkerView.{PartsSeen, worker_view}
use Rattle.serve_threads.proofs.Steps.{underway-none, underway-more, underway-still, shut-more}
use Rattle.serve_threads.proofs.working.take_links.Goals as goal

pub loop-init : goal.loop-init
loop-init g c =
    let seen : PartsSeen _ _ _ _ _ = record { home = g.V.Service.home; service = g.V.Service.service; door = g.D.Door.door; moments = g.C.Clock.moments } in
    let sides : LinkSides _ = record { source = g.D.L.Source.source; sink = g.D.L.Sink.sink } in
    record {
      underway = underway-none sides c.args.host_key.now (worker_view seen c.args.worker.now) c.requires.unused.sessions c.requires.unused.messages;
      shut = refl;
      faults = omega arith;
      sessions = c.requires.unused.sessions;
    }

pub returns-in-Closed-clause-underway : goal.returns-in-Closed-clause-underway
returns-in-Closed-clause-underway g c =
    let seen : PartsSeen _ _ _ _ _ = record { home = g.V.Service.home; service = g.V.Service.service; door = g.D.Door.door; moments = g.C.Clock.moments } in
    let sides : LinkSides _ = record { source = g.D.L.Source.source; sink = g.D.L.Sink.sink } in
    underway-still sides c.args.host_key.now (worker_view seen c.args.worker.now) (worker_view seen c.loop.worker) (g.D.Door.door c.accept.new.self) (g.D.Door.door c.accept.new.self).faults _
    c.loop.invariant.underway c.in-Closed.ensures.rest

pub returns-in-Failed-clause-underway : goal.returns-in-Failed-clause-underway
returns-in-Failed-clause-underway g c =
    let seen : PartsSeen _ _ _ _ _ = record { home = g.V.Service.home; service = g.V.Service.service; door = g.D.Door.door; moments = g.C.Clock.moments } in
    let sides : LinkSides _ = record { source = g.D.L.Source.source; sink = g.D.L.Sink.sink } in
    underway-still sides c.args.host_key.now (worker_view seen c.args.worker.now) (worker_view seen c.loop.worker) (g.D.Door.door c.accept.new.self) (g.D.Door.door c.accept.new.self).faults _
    c.loop.invariant.underway c.in-Failed.ensures.rest

pub loop-preserved : goal.loop-preserved
loop-preserved g c =
    let seen : PartsSeen _ _ _ _ _ = record { home = g.V.Service.home; service = g.V.Service.service; door = g.D.Door.door; moments = g.C.Clock.moments } in
    let sides : LinkSides _ = record { source = g.D.L.Source.source; sink = g.D.L.Sink.sink } in
    let held = c.serve_link.ensures.held in
    record {
      underway = underway-more sides c.args.host_key.now (worker_view seen c.args.worker.now) (worker_view seen c.loop.worker) (worker_view seen c.serve_link.new.worker)
          c.in-Linked.link (g.D.Door.door c.accept.new.self) c.loop.invariant.underway c.in-Linked.ensures held;
      shut = shut-more (g.D.Door.door c.args.worker.now.door) (g.D.Door.door c.loop.worker.door) (g.D.Door.door c.accept.new.self) (g.D.Door.door c.serve_link.new.worker.door)
          c.in-Linked.link held.given_back c.loop.invariant.shut c.in-Linked.ensures held.given;
      faults = let so_far = c.loop.invariant.faults in let comes = c.in-Linked.ensures.faults in let given = held.given.faults in omega (arith, so_far, comes, given);
      sessions = let more = held.sessions in let same = c.loop.invariant.sessions in omega (arith, more, same);
    }
