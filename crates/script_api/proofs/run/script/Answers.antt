use Rattle.desk_types.proofs.ServedInTurn.{AreServed-stays}
use Rattle.script_api.proofs.Finishing.{run-none}
use Rattle.script_api.proofs.run.script.Goals as goal

pub returns-in_default-clause-run : goal.returns-in_default-clause-run
returns-in_default-clause-run g c =
    run-none (g.V.Service.service c.args.service.now) (g.S.Source.source c.args.input.now) (g.T.Sink.sink c.args.output.now) c.history_is_legal.ensures.legal (g.met.T.Sink.taken_fits c.args.output.now)

pub returns-in-Ok-serve_lines-clause-service : goal.returns-in-Ok-serve_lines-clause-service
returns-in-Ok-serve_lines-clause-service g c =
    let run = c.in-Ok-serve_lines.ensures.done.run in
    AreServed-stays (g.V.Service.service c.args.service.now) (g.V.Service.service c.serve_lines.new.service) run.calls run.results run.served

pub returns-clause-service : goal.returns-clause-service
returns-clause-service g c =
    let run = c.in-Err.ensures.done.run in
    AreServed-stays (g.V.Service.service c.args.service.now) (g.V.Service.service c.serve_lines.new.service) run.calls run.results run.served
