use Rattle.std.proofs.Common.{◌≡◌, take, Ok}
use Rattle.std.specs.Prelude.{flat_map}
use Rattle.desk_io.specs.declared.out_buf.WriteFault.{WriteFault}
use Rattle.desk_io.specs.Putting.{Puts}
use Rattle.script_api.specs.ReplyLine.{spot_text}
use Rattle.script_api.proofs.reply_line.put_spots.Given as goal

-- the places so far are put
abbrev pub invariant-loop-spot : goal.invariant-loop-spot
invariant-loop-spot g l = record {
  puts : Puts {T = Unit {0}} {E = WriteFault} (g.T.Sink.sink l.initial.output) (g.T.Sink.sink l.output) l.initial.out l.out (flat_map spot_text (take l.spot-index l.spots)) (Ok tt);
  source_side : g.T.Sink.source_side l.output ≡ g.T.Sink.source_side l.initial.output;
}
