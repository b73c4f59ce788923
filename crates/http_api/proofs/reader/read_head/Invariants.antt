use Rattle.std.proofs.Common.{◌≡◌, ◌-◌, ◌≤◌, length}
use Rattle.http_api.specs.Held.{Grows}
use Rattle.http_api.specs.declared.limits.TheConstants.{HEAD_BYTES_MAX}
use Rattle.http_api.proofs.reader.read_head.Given as goal

abbrev pub invariant-loop-size : goal.invariant-loop-size
invariant-loop-size g l = record {
  size : l.window.size ≡ l.fn.window.size;
  grows : Grows (g.S.Source.source l.fn.source).left (g.S.Source.source l.source).left l.fn.window.held l.window.held;
  faults : (g.S.Source.source l.fn.source).faults ≤ (g.S.Source.source l.source).faults;
  sink_side : g.S.Source.sink_side l.source ≡ g.S.Source.sink_side l.fn.source;
}

abbrev pub decreases-loop-size : goal.decreases-loop-size
decreases-loop-size g l = HEAD_BYTES_MAX - length l.window.held
