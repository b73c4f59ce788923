use Rattle.std.proofs.Common.{refl}
use Rattle.std.proofs.lemmas.Result.{err_from_is_err_and}
use Rattle.script_api.specs.ScriptRun.{script_at}
use Rattle.script_api.proofs.Finishing.{so_far-none, ends-flushed, ends-unflushed}
use Rattle.script_api.proofs.serving.LineServing.serve_lines.Goals as goal

pub loop-end-init : goal.loop-end-init
loop-end-init g c = record {
  home = refl;
  so_far = so_far-none (g.V.Service.service c.args.service.now) (g.S.Source.source c.args.input.now) (g.T.Sink.sink c.args.output.now) c.args.self.now.lines c.args.self.now.answers
      c.requires.legal (g.met.T.Sink.taken_fits c.args.output.now) c.requires.lines c.requires.waiting;
  sink_side = refl;
  source_side = refl;
}

pub returns-in_err-flush-clause-done : goal.returns-in_err-flush-clause-done
returns-in_err-flush-clause-done g c =
    let start = script_at (g.V.Service.service c.args.service.now) (g.S.Source.source c.args.input.now) (g.T.Sink.sink c.args.output.now) in
    let p = err_from_is_err_and c.from_residual-in_err-flush.result c.from_residual-in_err-flush.ensures.1 in
    let ends = rw c.in-Some.is at (c.in_ok-end.ensures.turn start c.loop-end.invariant.so_far) in
    rw p.1
    (ends-unflushed start (g.V.Service.service c.serve_line.new.service) (g.S.Source.source c.serve_line.new.input) (g.T.Sink.sink c.serve_line.new.output) (g.T.Sink.sink c.flush.new.sink)
    c.serve_line.new.self.lines c.serve_line.new.self.answers c.flush.new.self c.in-Some.end ends c.in_err-flush.field-0.0 c.in_err-flush.ensures.flushes)

pub returns-in-Some-clause-done : goal.returns-in-Some-clause-done
returns-in-Some-clause-done g c =
    let start = script_at (g.V.Service.service c.args.service.now) (g.S.Source.source c.args.input.now) (g.T.Sink.sink c.args.output.now) in
    let ends = rw c.in-Some.is at (c.in_ok-end.ensures.turn start c.loop-end.invariant.so_far) in
    ends-flushed start (g.V.Service.service c.serve_line.new.service) (g.S.Source.source c.serve_line.new.input) (g.T.Sink.sink c.serve_line.new.output) (g.T.Sink.sink c.flush.new.sink)
    c.serve_line.new.self.lines c.serve_line.new.self.answers c.flush.new.self c.in-Some.end ends c.in_ok-flush.ensures.flushes
