use Rattle.desk_types.proofs.ServedInTurn.{AreServed-stays}
use Rattle.http_api.specs.SessionRun.{calls_of, results_of, session_at}
use Rattle.http_api.proofs.SessionMoves.{session-none}
use Rattle.http_api.proofs.run.session.Goals as goal

pub returns-in_default-clause-session : goal.returns-in_default-clause-session
returns-in_default-clause-session g c =
    session-none c.args.host_key.now (session_at (g.V.Service.service c.args.service.now) (g.L.Source.source c.args.link.now) (g.L.Sink.sink c.args.link.now) (g.C.Clock.moments c.args.clock.now))
    c.history_is_legal.ensures.legal (g.met.L.Sink.taken_fits c.args.link.now)

pub returns-clause-service : goal.returns-clause-service
returns-clause-service g c =
    let session = c.serve_messages.ensures.done.session in
    AreServed-stays (g.V.Service.service c.args.service.now) (g.V.Service.service c.serve_messages.new.service) (calls_of session.exchanges) (results_of session.exchanges) session.served
