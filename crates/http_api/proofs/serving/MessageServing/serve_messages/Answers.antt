use Rattle.std.proofs.Common.{◌≡◌, refl, ap, ◌∙◌, arith}
use Rattle.http_api.specs.declared.limits.TheConstants.{MESSAGES_MAX}
use Rattle.http_api.specs.declared.serving.Turn.TheVariants as turn
use Rattle.http_api.specs.SessionRun.{session_at}
use Rattle.http_api.proofs.SessionAnswers.{full-ends, turn-answered, turn-unanswered}
use Rattle.http_api.proofs.SessionMoves.{goes-none}
use Rattle.http_api.proofs.serving.MessageServing.serve_messages.Goals as goal

pub loop-messages-init : goal.loop-messages-init
loop-messages-init g c = record {
  waiting = c.requires.waiting;
  home = refl;
  goes = goes-none c.args.host_key.now (session_at (g.V.Service.service c.args.service.now) (g.L.Source.source c.args.link.now) (g.L.Sink.sink c.args.link.now) (g.C.Clock.moments c.args.clock.now))
      c.args.self.now.reader.held c.requires.legal (g.met.L.Sink.taken_fits c.args.link.now) c.requires.held;
  lenders = refl;
}

pub returns-in-Ok-Answered-Some-clause-done : goal.returns-in-Ok-Answered-Some-clause-done
returns-in-Ok-Answered-Some-clause-done g c =
    let start = (session_at (g.V.Service.service c.args.service.now) (g.L.Source.source c.args.link.now) (g.L.Sink.sink c.args.link.now) (g.C.Clock.moments c.args.clock.now)) in
    turn-answered c.args.host_key.now start (session_at (g.V.Service.service c.serve_next.new.service) (g.L.Source.source c.serve_next.new.link) (g.L.Sink.sink c.serve_next.new.link) (g.C.Clock.moments c.serve_next.new.clock))
    c.serve_next.new.self.reader.held c.loop-messages.messages c.in-Ok-Answered-Some.field-0 c.in-Ok-Answered-Some.end (c.in-Ok-Answered-Some.ensures.turn start c.loop-messages.invariant.goes)
    (c.in-Ok-Answered-Some.field-0-is ∙ ap turn.Answered c.in-Ok-Answered-Some.field-0-0-is)

pub returns-in-Ok-Unanswered-clause-done : goal.returns-in-Ok-Unanswered-clause-done
returns-in-Ok-Unanswered-clause-done g c =
    let start = (session_at (g.V.Service.service c.args.service.now) (g.L.Source.source c.args.link.now) (g.L.Sink.sink c.args.link.now) (g.C.Clock.moments c.args.clock.now)) in
    turn-unanswered c.args.host_key.now start (session_at (g.V.Service.service c.serve_next.new.service) (g.L.Source.source c.serve_next.new.link) (g.L.Sink.sink c.serve_next.new.link) (g.C.Clock.moments c.serve_next.new.clock))
    c.serve_next.new.self.reader.held c.loop-messages.messages c.in-Ok-Unanswered.field-0 c.in-Ok-Unanswered.end (c.in-Ok-Unanswered.ensures.turn start c.loop-messages.invariant.goes)
    c.in-Ok-Unanswered.field-0-is

pub returns-in-Err-clause-done : goal.returns-in-Err-clause-done
returns-in-Err-clause-done g c = c.in-Err.ensures.turn (session_at (g.V.Service.service c.args.service.now) (g.L.Source.source c.args.link.now) (g.L.Sink.sink c.args.link.now) (g.C.Clock.moments c.args.clock.now)) c.loop-messages.invariant.goes

pub unreachable-requires : goal.unreachable-requires
unreachable-requires g c =
    let full : c.loop-messages.messages ≡ MESSAGES_MAX = omega arith in
    full-ends c.args.host_key.now (session_at (g.V.Service.service c.args.service.now) (g.L.Source.source c.args.link.now) (g.L.Sink.sink c.args.link.now) (g.C.Clock.moments c.args.clock.now))
    (session_at (g.V.Service.service c.loop-messages.service) (g.L.Source.source c.loop-messages.link) (g.L.Sink.sink c.loop-messages.link) (g.C.Clock.moments c.loop-messages.clock)) c.loop-messages.self.reader.held c.loop-messages.messages full
    c.loop-messages.invariant.goes
