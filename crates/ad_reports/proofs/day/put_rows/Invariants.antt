use Rattle.std.proofs.Common.{◌≡◌, take, Ok}
use Rattle.std.specs.Prelude.{flat_map}
use Rattle.desk_io.specs.declared.out_buf.WriteFault.{WriteFault}
use Rattle.desk_io.specs.Putting.{Puts}
use Rattle.ad_reports.specs.TableLine.{row_line}
use Rattle.ad_reports.proofs.day.put_rows.Given as goal

-- the lines so far are put
abbrev pub invariant-loop-row : goal.invariant-loop-row
invariant-loop-row g l = record {
  puts : Puts {T = Unit {0}} {E = WriteFault} (g.T.Sink.sink l.initial.sink) (g.T.Sink.sink l.sink) l.initial.out l.out (flat_map row_line (take l.row-index l.rows)) (Ok tt);
  source_side : g.T.Sink.source_side l.sink ≡ g.T.Sink.source_side l.initial.sink;
}
