use Rattle.std.proofs.Common.{◌≡◌, take, Ok}
use Rattle.desk_io.specs.declared.out_buf.WriteFault.{WriteFault}
use Rattle.desk_io.specs.Pieces.{text_of}
use Rattle.desk_io.specs.Putting.{Puts}
use Rattle.desk_io.proofs.out_buf.OutBuf.put_all.Given as goal

abbrev pub invariant-loop-piece : goal.invariant-loop-piece
invariant-loop-piece g l = record {
  puts : Puts {T = Unit {0}} {E = WriteFault} (g.T.Sink.sink l.initial.sink) (g.T.Sink.sink l.sink) l.initial.self l.self (text_of (take l.piece-index l.pieces)) (Ok tt);
  source_side : g.T.Sink.source_side l.sink ≡ g.T.Sink.source_side l.initial.sink;
}
