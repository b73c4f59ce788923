use Rattle.std.proofs.Common.{◌≡◌, ◌≤◌, length}
use Rattle.desk_io.proofs.Sending.{Sending}
use Rattle.desk_io.proofs.out_buf.write_all.Given as goal

abbrev pub invariant-loop-rest : goal.invariant-loop-rest
invariant-loop-rest g l = record {
  sending : Sending (g.T.Sink.sink l.initial.sink) (g.T.Sink.sink l.sink) l.bytes l.rest;
  faults : (g.T.Sink.sink l.initial.sink).faults ≤ (g.T.Sink.sink l.sink).faults;
  source_side : g.T.Sink.source_side l.sink ≡ g.T.Sink.source_side l.initial.sink;
}

abbrev pub decreases-loop-rest : goal.decreases-loop-rest
decreases-loop-rest g l = length l.rest
