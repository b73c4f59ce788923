use Rattle.std.proofs.Common.{◌≡◌, ◌-◌, ◌≤◌, length}
use Rattle.http_api.specs.Held.{Grows}
use Rattle.http_api.proofs.reader.read_up_to.Given as goal

abbrev pub invariant-loop-window : goal.invariant-loop-window
invariant-loop-window g l = record {
  size : l.window.size ≡ l.fn.window.size;
  grows : Grows (g.S.Source.source l.fn.source).left (g.S.Source.source l.source).left l.fn.window.held l.window.held;
  faults : (g.S.Source.source l.fn.source).faults ≤ (g.S.Source.source l.source).faults;
  sink_side : g.S.Source.sink_side l.source ≡ g.S.Source.sink_side l.fn.source;
}

abbrev pub decreases-loop-window : goal.decreases-loop-window
decreases-loop-window g l = l.size - length l.window.held
