use Rattle.std.proofs.Common.{◌≡◌, ◌+◌, ◌-◌, ◌≤◌, [], length}
use Rattle.desk_io.specs.NextLine.{ahead}
use Rattle.desk_io.proofs.line_reader.LineReader.next.Given as goal

abbrev pub invariant-loop-size : goal.invariant-loop-size
invariant-loop-size g l = record {
  max : l.self.max ≡ l.fn.self.max;
  line : l.self.line ≡ [];
  ahead : ahead l.self (g.S.Source.source l.source).left ≡ ahead l.fn.self (g.S.Source.source l.fn.source).left;
  faults : (g.S.Source.source l.fn.source).faults ≤ (g.S.Source.source l.source).faults;
  sink_side : g.S.Source.sink_side l.source ≡ g.S.Source.sink_side l.fn.source;
}

abbrev pub decreases-loop-size : goal.decreases-loop-size
decreases-loop-size g l = l.self.max + 1 - length l.self.held
