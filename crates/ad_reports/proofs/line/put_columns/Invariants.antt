use Rattle.std.proofs.Common.{◌≡◌, take, Ok}
use Rattle.std.specs.Prelude.{flat_map}
use Rattle.desk_io.specs.declared.out_buf.WriteFault.{WriteFault}
use Rattle.desk_io.specs.Putting.{Puts}
use Rattle.ad_reports.specs.TableLine.{column_text}
use Rattle.ad_reports.proofs.line.put_columns.Given as goal

-- the columns so far are put
abbrev pub invariant-loop-column : goal.invariant-loop-column
invariant-loop-column g l = record {
  puts : Puts {T = Unit {0}} {E = WriteFault} (g.T.Sink.sink l.initial.sink) (g.T.Sink.sink l.sink) l.initial.out l.out (flat_map column_text (take l.column-index l.columns)) (Ok tt);
  source_side : g.T.Sink.source_side l.sink ≡ g.T.Sink.source_side l.initial.sink;
}
