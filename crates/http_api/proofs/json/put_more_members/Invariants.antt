use Rattle.std.proofs.Common.{◌≡◌, take, Ok}
use Rattle.std.specs.Prelude.{flat_map}
use Rattle.desk_io.specs.declared.out_buf.WriteFault.{WriteFault}
use Rattle.desk_io.specs.Putting.{Puts}
use Rattle.http_api.proofs.JsonMembers.{next_member}
use Rattle.http_api.proofs.json.put_more_members.Given as goal

-- the members so far are put
abbrev pub invariant-loop-member : goal.invariant-loop-member
invariant-loop-member g l = record {
  puts : Puts {T = Unit {0}} {E = WriteFault} (g.T.Sink.sink l.initial.sink) (g.T.Sink.sink l.sink) l.initial.out l.out (flat_map next_member (take l.member-index l.members)) (Ok tt);
  source_side : g.T.Sink.source_side l.sink ≡ g.T.Sink.source_side l.initial.sink;
}
