use Rattle.std.proofs.Common.{◌≡◌, length}
use Rattle.http_api.proofs.JsonEscaping.{Escaping}
use Rattle.http_api.proofs.json.put_escaped.Given as goal

-- what is before the rest is put
abbrev pub invariant-loop-place : goal.invariant-loop-place
invariant-loop-place g l = record {
  escaping : Escaping (g.T.Sink.sink l.initial.sink) (g.T.Sink.sink l.sink) l.initial.out l.out l.text l.rest;
  source_side : g.T.Sink.source_side l.sink ≡ g.T.Sink.source_side l.initial.sink;
}

abbrev pub decreases-loop-place : goal.decreases-loop-place
decreases-loop-place g l = length l.rest
