use Rattle.std.proofs.Common.{◌≡◌, ◌-◌}
use Rattle.desk_io.specs.declared.limits.TheConstants.{INPUT_LINES_MAX}
use Rattle.script_api.specs.ScriptRun.{script_at}
use Rattle.script_api.specs.ScriptTurn.{midway, IsSoFar}
use Rattle.script_api.proofs.serving.LineServing.serve_lines.Given as goal

abbrev pub invariant-loop-end : goal.invariant-loop-end
invariant-loop-end g l = record {
  home : g.V.Service.home l.service ≡ g.V.Service.home l.fn.service;
  so_far : IsSoFar (script_at (g.V.Service.service l.fn.service) (g.S.Source.source l.fn.input) (g.T.Sink.sink l.fn.output))
      (midway (script_at (g.V.Service.service l.service) (g.S.Source.source l.input) (g.T.Sink.sink l.output)) l.self.lines l.self.answers);
  sink_side : g.S.Source.sink_side l.input ≡ g.S.Source.sink_side l.fn.input;
  source_side : g.T.Sink.source_side l.output ≡ g.T.Sink.source_side l.fn.output;
}

abbrev pub decreases-loop-end : goal.decreases-loop-end
decreases-loop-end g l = INPUT_LINES_MAX - l.self.lines.count
