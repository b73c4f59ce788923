-- A session over a pair is one over its two ends.
use Rattle.std.proofs.Common.{ℕ, List}
use Rattle.std.specs.Prelude.{Option}
use Rattle.std.specs.Borrow.{GName}
use Rattle.desk_io.specs.SinkView.{SinkView}
use Rattle.desk_io.specs.SourceView.{SourceView}
use Rattle.desk_io.specs.Writing.{Appends}
use Rattle.desk_types.specs.Serving.{ServiceView}
use Rattle.http_api.specs.declared.ending.Session.{Session}
use Rattle.http_api.specs.declared.ending.SessionEnd.{SessionEnd}
use Rattle.http_api.specs.declared.ending.SessionEnd.TheVariants.{Ended, Closed, CutShort, Malformed, SessionFull, ReadFault, WriteFault, NoMemory}
use Rattle.http_api.specs.SessionRun.{AreAnswered, Exchange, IsBrokenOff, IsSession, SessionCause, WrittenBy, session_at}

-- what is written does not depend on who lends the ends
module _ (before after : List GName) (sink sink_now : SinkView) where
  appends : (bytes : List ℕ) → Appends (record sink { lenders = before }) (record sink_now { lenders = after }) bytes → Appends sink sink_now bytes
  appends bytes h = record { appended = h.appended; counted = h.counted }

  answered : (exchanges : List Exchange) (messages : ℕ) → AreAnswered (record sink { lenders = before }) (record sink_now { lenders = after }) exchanges messages → AreAnswered sink sink_now exchanges messages
  answered exchanges messages h = record { count = h.count; written = appends _ h.written }

  broken : (exchanges : List Exchange) (messages : ℕ) → IsBrokenOff (record sink { lenders = before }) (record sink_now { lenders = after }) exchanges messages → IsBrokenOff sink sink_now exchanges messages
  broken exchanges messages h = record { answered = h.answered; last = h.last; all = h.all; count = h.count; part = h.part; proper = h.proper; written = appends _ h.written }

  written : (end : SessionEnd) (exchanges : List Exchange) (messages : ℕ) → WrittenBy end (record sink { lenders = before }) (record sink_now { lenders = after }) exchanges messages → WrittenBy end sink sink_now exchanges messages
  written Ended exchanges messages h = answered exchanges messages h
  written Closed exchanges messages h = answered exchanges messages h
  written CutShort exchanges messages h = answered exchanges messages h
  written Malformed exchanges messages h = answered exchanges messages h
  written SessionFull exchanges messages h = answered exchanges messages h
  written ReadFault exchanges messages h = answered exchanges messages h
  written WriteFault exchanges messages h = broken exchanges messages h
  written NoMemory exchanges messages h = answered exchanges messages h

cause : (b a : List GName) (end : SessionEnd) (source source_now : SourceView) (sink sink_now : SinkView) → SessionCause end (record source { lenders = b }) (record source_now { lenders = a }) (record sink { lenders = b }) (record sink_now { lenders = a }) →
    SessionCause end source source_now sink sink_now
cause b a Ended source source_now sink sink_now h = tt
cause b a Closed source source_now sink sink_now h = tt
cause b a CutShort source source_now sink sink_now h = tt
cause b a Malformed source source_now sink sink_now h = tt
cause b a SessionFull source source_now sink sink_now h = tt
cause b a ReadFault source source_now sink sink_now h = h
cause b a WriteFault source source_now sink sink_now h = h
cause b a NoMemory source source_now sink sink_now h = tt

pub unpaired : (host_key : List ℕ) (b a : List GName) (service service_now : ServiceView) (source source_now : SourceView) (sink sink_now : SinkView) (moments moments_now : Option (List ℕ)) (session : Session) →
    IsSession host_key (session_at service (record source { lenders = b }) (record sink { lenders = b }) moments) (session_at service_now (record source_now { lenders = a }) (record sink_now { lenders = a }) moments_now) session →
    IsSession host_key (session_at service source sink moments) (session_at service_now source_now sink_now moments_now) session
unpaired host_key b a service service_now source source_now sink sink_now moments moments_now session h = record {
  bytes = h.bytes;
  rest = h.rest;
  exchanges = h.exchanges;
  read = h.read;
  spelled = h.spelled;
  ends = h.ends;
  served = h.served;
  moments = h.moments;
  written = written b a sink sink_now session.end h.exchanges session.messages h.written;
  cause = cause b a session.end source source_now sink sink_now h.cause;
}
