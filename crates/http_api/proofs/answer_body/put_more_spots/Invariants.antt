use Rattle.std.proofs.Common.{◌≡◌, take, Ok}
use Rattle.std.specs.Prelude.{flat_map}
use Rattle.desk_io.specs.declared.out_buf.WriteFault.{WriteFault}
use Rattle.desk_io.specs.Putting.{Puts}
use Rattle.http_api.proofs.AnswerSpots.{next_spot}
use Rattle.http_api.proofs.answer_body.put_more_spots.Given as goal

-- the spots so far are put
abbrev pub invariant-loop-spot : goal.invariant-loop-spot
invariant-loop-spot g l = record {
  puts : Puts {T = Unit {0}} {E = WriteFault} (g.T.Sink.sink l.initial.sink) (g.T.Sink.sink l.sink) l.initial.out l.out (flat_map next_spot (take l.spot-index l.spots)) (Ok tt);
  source_side : g.T.Sink.source_side l.sink ≡ g.T.Sink.source_side l.initial.sink;
}
