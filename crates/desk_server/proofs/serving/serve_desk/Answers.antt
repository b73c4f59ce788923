use Rattle.std.proofs.Common.{◌≡◌, ◌<◌, ◌++◌, List, ap, sym, subst, length, sum_by, take, drop, ◌∙◌, arith}
use Rattle.std.specs.List.{AllZip}
use Rattle.std.proofs.lemmas.List.{length-map}
use Rattle.std.proofs.lemmas.List.Elements.{length_all_zip}
use Rattle.desk_hall.specs.Callers.{CallerValue, HallPass, caller_of}
use Rattle.serve_threads.specs.declared.worker.Worker.{Worker}
use Rattle.serve_threads.specs.Visits.{LinkSides}
use Rattle.desk_server.specs.Parts.{Orders}
use Rattle.desk_server.proofs.Members.{Works}
use Rattle.desk_server.proofs.Places.{all_of}
use Rattle.desk_server.proofs.Service.{are_all, few_of_all, served, written_back}
use Rattle.desk_server.proofs.serving.serve_desk.Goals as goal

pub engage-requires-clause-of_hall : goal.engage-requires-clause-of_hall
engage-requires-clause-of_hall g c =
    all_of (λ (p : HallPass). p.lock ≡ c.in-Ok-new.made.0.id) c.in-Ok-new.made.1.items
    (λ place p here. ap (λ (q : HallPass). q.lock) (c.in-Ok-new.ensures.passes.each place p here))

pub serve-requires-clause-unused : goal.serve-requires-clause-unused
serve-requires-clause-unused g c κs within = rw c.deref_mut.ensures.value c.engage.ensures.unused

pub dismiss-totals-requires-clause-sessions : goal.dismiss-totals-requires-clause-sessions
dismiss-totals-requires-clause-sessions g c =
    let sides : LinkSides _ = record { source = g.D.L.Source.source; sink = g.D.L.Sink.sink } in
    let orders : Orders = record { host_key = c.args.host_key.now; sessions = c.args.sessions } in
    let W = Works g.D.Door.door g.C.Clock.moments sides orders in
    let before = c.engage.new.workers.items in
    let after = c.serve.new.workers in
    let all : AllZip W before after = subst (λ l. AllZip W l after) c.deref_mut.ensures.value c.serve.ensures.worked in
    let size = length_all_zip W before after all in
    let came = sym (length-map before (λ (w : Worker CallerValue _ _). w.service)) ∙ ap length c.engage.ensures.callers ∙ length-map c.in-Ok-new.made.1.items caller_of in
    let few = (few_of_all g.D.Door.door g.C.Clock.moments sides orders 1000000 c.requires.sessions.1 before after all).0 in
    subst (λ (ws : List (Worker CallerValue _ _)). sum_by (λ w. w.sessions) ws < 18446744073709551616)
    (sym (written_back W before after c.engage.new.workers.len all c.engage.new.workers.ok.0))
    (omega (arith, few, size, came, c.in-Ok-new.ensures.passes.count, c.in-Ok-new.ensures.callers, c.requires.workers.1, c.len-2.ensures))

pub dismiss-totals-requires-clause-messages : goal.dismiss-totals-requires-clause-messages
dismiss-totals-requires-clause-messages g c =
    let sides : LinkSides _ = record { source = g.D.L.Source.source; sink = g.D.L.Sink.sink } in
    let orders : Orders = record { host_key = c.args.host_key.now; sessions = c.args.sessions } in
    let W = Works g.D.Door.door g.C.Clock.moments sides orders in
    let before = c.engage.new.workers.items in
    let after = c.serve.new.workers in
    let all : AllZip W before after = subst (λ l. AllZip W l after) c.deref_mut.ensures.value c.serve.ensures.worked in
    let size = length_all_zip W before after all in
    let came = sym (length-map before (λ (w : Worker CallerValue _ _). w.service)) ∙ ap length c.engage.ensures.callers ∙ length-map c.in-Ok-new.made.1.items caller_of in
    let few = (few_of_all g.D.Door.door g.C.Clock.moments sides orders 1000000 c.requires.sessions.1 before after all).1 in
    subst (λ (ws : List (Worker CallerValue _ _)). sum_by (λ w. w.messages) ws < 18446744073709551616)
    (sym (written_back W before after c.engage.new.workers.len all c.engage.new.workers.ok.0))
    (omega (arith, few, size, came, c.in-Ok-new.ensures.passes.count, c.in-Ok-new.ensures.callers, c.requires.workers.1, c.len-2.ensures))

pub close-requires : goal.close-requires
close-requires g c =
    let sides : LinkSides _ = record { source = g.D.L.Source.source; sink = g.D.L.Sink.sink } in
    let orders : Orders = record { host_key = c.args.host_key.now; sessions = c.args.sessions } in
    let W = Works g.D.Door.door g.C.Clock.moments sides orders in
    let before = c.engage.new.workers.items in
    let after = c.serve.new.workers in
    let all : AllZip W before after = subst (λ l. AllZip W l after) c.deref_mut.ensures.value c.serve.ensures.worked in
    let left = take c.engage.new.workers.len (after ++ drop (length after) before) in
    let all_left = subst (AllZip W before) (sym (written_back W before after c.engage.new.workers.len all c.engage.new.workers.ok.0)) all in
    record {
      passes = are_all g.D.Door.door g.C.Clock.moments sides orders c.in-Ok-new.made.0 c.in-Ok-new.made.1.items c.dismiss-totals.new.passes.items before left
          c.in-Ok-new.ensures.passes c.engage.ensures.callers all_left c.dismiss-totals.ensures.passes;
    }

pub returns-clause-served : goal.returns-clause-served
returns-clause-served g c =
    let sides : LinkSides _ = record { source = g.D.L.Source.source; sink = g.D.L.Sink.sink } in
    let orders : Orders = record { host_key = c.args.host_key.now; sessions = c.args.sessions } in
    let W = Works g.D.Door.door g.C.Clock.moments sides orders in
    let before = c.engage.new.workers.items in
    let after = c.serve.new.workers in
    let all : AllZip W before after = subst (λ l. AllZip W l after) c.deref_mut.ensures.value c.serve.ensures.worked in
    let left = take c.engage.new.workers.len (after ++ drop (length after) before) in
    let all_left = subst (AllZip W before) (sym (written_back W before after c.engage.new.workers.len all c.engage.new.workers.ok.0)) all in
    served g.D.Door.door g.C.Clock.moments sides orders c.in-Ok-new.made.0 c.in-Ok-new.made.1.items c.dismiss-totals.new.passes.items before left
    c.in-Ok-new.ensures.passes c.engage.ensures.callers all_left c.dismiss-totals.ensures.passes
    c.close.result (sym c.close.ensures.name) c.close.ensures.seen c.close.ensures.own c.close.ensures.others
    c.args.doors.now.items c.dismiss-totals.new.doors.items c.args.clocks.items
    c.engage.ensures.at_doors c.dismiss-totals.ensures.doors c.engage.ensures.by_clocks c.dismiss-totals.result c.dismiss-totals.ensures.totals
