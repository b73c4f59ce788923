use Rattle.std.proofs.Common.{◌≡◌, take, Ok}
use Rattle.std.specs.Prelude.{flat_map}
use Rattle.desk_io.specs.declared.out_buf.WriteFault.{WriteFault}
use Rattle.desk_io.specs.Putting.{Puts}
use Rattle.script_api.specs.ReportLine.{campaign_text}
use Rattle.script_api.proofs.report_line.put_campaigns.Given as goal

-- the campaigns so far are put
abbrev pub invariant-loop-row : goal.invariant-loop-row
invariant-loop-row g l = record {
  puts : Puts {T = Unit {0}} {E = WriteFault} (g.T.Sink.sink l.initial.output) (g.T.Sink.sink l.output) l.initial.out l.out (flat_map campaign_text (take l.row-index l.rows)) (Ok tt);
  source_side : g.T.Sink.source_side l.output ≡ g.T.Sink.source_side l.initial.output;
}
