use Rattle.std.proofs.Common.{◌≡◌, []}
use Rattle.http_api.specs.SessionRun.{session_at}
use Rattle.http_api.specs.SessionTurn.{GoesOn}
use Rattle.http_api.proofs.serving.MessageServing.serve_messages.Given as goal

abbrev pub invariant-loop-messages : goal.invariant-loop-messages
invariant-loop-messages g l = record {
  waiting : l.self.answers ≡ [];
  home : g.V.Service.home l.service ≡ g.V.Service.home l.fn.service;
  goes : GoesOn l.host_key (session_at (g.V.Service.service l.fn.service) (g.L.Source.source l.fn.link) (g.L.Sink.sink l.fn.link) (g.C.Clock.moments l.fn.clock))
      (session_at (g.V.Service.service l.service) (g.L.Source.source l.link) (g.L.Sink.sink l.link) (g.C.Clock.moments l.clock)) l.self.reader.held l.messages;
  lenders : (g.L.Source.source l.link).lenders ≡ (g.L.Source.source l.fn.link).lenders;
}
