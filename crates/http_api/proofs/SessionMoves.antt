-- A session from message to message, and how it ends.
use Rattle.std.proofs.Common.{◌≡◌, ◌≢◌, ℕ, ◌+◌, ◌≤◌, ◌<◌, ◌^◌, true, false, List, [], ◌∷◌, ◌++◌, length, Option, Some, None, IfSome, Ok, Err, refl, sym, ap, subst, ◌∙◌, append_assoc, length-append, arith}
use Rattle.std.specs.Prelude.{flat_map}
use Rattle.std.specs.Option.{option_map}
use Rattle.std.proofs.lemmas.List.Elements.{All-nil}
use Rattle.desk_io.specs.Faults.{Rose}
use Rattle.desk_io.specs.Putting.{Flushes}
use Rattle.desk_io.specs.Reading.{Taken}
use Rattle.desk_io.specs.SinkView.{SinkView}
use Rattle.desk_io.specs.SourceView.{SourceView}
use Rattle.desk_io.specs.Writing.{Appends}
use Rattle.desk_io.specs.declared.out_buf.WriteFault.{WriteFault}
use Rattle.desk_io.proofs.Appending.{Appends_none, Appends_more}
use Rattle.desk_types.specs.Journal.{IsLegal}
use Rattle.desk_types.specs.Serving.{ServiceView}
use Rattle.desk_types.proofs.ServedInTurn.{AreServed-none}
use Rattle.http_api.specs.declared.ending.Session.{Session}
use Rattle.http_api.specs.declared.ending.SessionEnd.{SessionEnd}
use Rattle.http_api.specs.declared.ending.SessionEnd.TheVariants as end
use Rattle.http_api.specs.declared.limits.TheConstants.{MESSAGES_MAX}
use Rattle.http_api.specs.HeadEnd.{without_blank}
use Rattle.http_api.specs.HeadValue.{HeadValue}
use Rattle.http_api.specs.Message.{Faulty, Whole, IsMessage, HoldsNoMessage, ends_session}
use Rattle.http_api.specs.SessionRun.{AreAnswered, AreMoments, AreWritten, EndsSo, Exchange, IsAnswer, IsSession, SessionCause, SessionState, call_made, calls_of, exchange_text, is_last, result_given, results_of, session_at, texts_behind}
use Rattle.http_api.specs.SessionTurn.{AreHandled, EndsLast, GoesOn, HasNoLast, IsCalled, IsDone, calling_at}
use Rattle.http_api.proofs.SessionLists.{flat_map-one, All-one, AreMoments-called, AreServed-called, EndsLast-none, EndsLast-one, HasNoLast-one, texts_behind-one}

taken-joined : (first second : List ℕ) (left : Option (List ℕ)) → option_map (λ more. first ++ more) (option_map (λ more. second ++ more) left) ≡ option_map (λ more. (first ++ second) ++ more) left
taken-joined first second None = refl
taken-joined first second (Some more) = ap Some (sym (append_assoc first second more))

-- two reads in a row are one read
taken-more : (before between after : Option (List ℕ)) (first second : List ℕ) → Taken before between first → Taken between after second → Taken before after (first ++ second)
taken-more before between after first second one two = one ∙ ap (option_map (λ more. first ++ more)) two ∙ taken-joined first second after

taken-none : (left : Option (List ℕ)) → Taken left left []
taken-none None = refl
taken-none (Some more) = refl

-- a session is done where its messages are handled, and their answers written so
done : (host_key : List ℕ) (start now : SessionState) (ahead : List ℕ) (exchanges : List Exchange) (left : Session) → AreHandled host_key start now ahead exchanges → EndsLast exchanges →
    EndsSo left.end exchanges ahead now.source.left → AreWritten start.sink now.sink exchanges left → SessionCause left.end start.source now.source start.sink now.sink → start.sink.faults ≤ now.sink.faults →
    IsDone host_key start now left
done host_key start now ahead exchanges left handled on ends written cause low = record {
  session = record {
    bytes = handled.read;
    rest = ahead;
    exchanges = exchanges;
    read = handled.taken;
    spelled = record { whole = handled.whole; messages = handled.messages; answers = handled.answers; on = on };
    ends = ends;
    served = handled.served;
    moments = handled.moments;
    written = written;
    cause = cause;
  };
  read_faults = handled.read_faults;
  write_faults = low;
}

-- before the first message
handled-none : (host_key : List ℕ) (start : SessionState) → IsLegal start.service.opening.settings start.service.seen → AreHandled host_key start start [] []
unfolding AreMoments
handled-none host_key start legal = record {
  read = [];
  taken = taken-none start.source.left;
  whole = refl;
  messages = All-nil (λ (exchange : Exchange). IsMessage exchange.bytes exchange.message);
  answers = All-nil (λ (exchange : Exchange). IsAnswer host_key exchange.message exchange.answered);
  served = AreServed-none start.service legal;
  moments = refl;
  read_faults = omega arith;
}

written-none : (sink : SinkView) → IfSome sink.taken (λ n. n < 2 ^ 64) → Appends sink sink (texts_behind 0 [])
unfolding texts_behind
written-none sink fits = Appends_none sink fits

not-one : (before after : List Exchange) (exchange : Exchange) → [] ≡ before ++ exchange ∷ after → ⊥
not-one [] after exchange is = cc
not-one (first ∷ before) after exchange is = cc

none-last : HasNoLast []
none-last = λ before after exchange is. absurd (not-one before after exchange is)

pub goes-none : (host_key : List ℕ) (start : SessionState) (held : List ℕ) → IsLegal start.service.opening.settings start.service.seen → IfSome start.sink.taken (λ n. n < 2 ^ 64) → held ≡ [] →
    GoesOn host_key start start held 0
goes-none host_key start held legal fits none = record {
  exchanges = [];
  underway = record {
    handled = subst (λ (ahead : List ℕ). AreHandled host_key start start ahead []) (sym none) (handled-none host_key start legal);
    written = written-none start.sink fits;
    write_faults = omega arith;
  };
  count = refl;
  no_last = none-last;
}

-- want of memory before the first message
pub session-none : (host_key : List ℕ) (start : SessionState) → IsLegal start.service.opening.settings start.service.seen → IfSome start.sink.taken (λ n. n < 2 ^ 64) →
    IsSession host_key start start (record { end = end.NoMemory; messages = 0 })
session-none host_key start legal fits =
    let whole : IsDone host_key start start (record { end = end.NoMemory; messages = 0 }) =
    done host_key start start [] [] (record { end = end.NoMemory; messages = 0 }) (handled-none host_key start legal) (EndsLast-none [] none-last) (refl, refl)
    (record { count = refl; written = written-none start.sink fits }) tt (omega arith) in
    whole.session

-- more was read
handled-read : (host_key : List ℕ) (start : SessionState) (service : ServiceView) (source source' : SourceView) (sink : SinkView) (moments : Option (List ℕ)) (ahead more : List ℕ) (exchanges : List Exchange) →
    AreHandled host_key start (session_at service source sink moments) ahead exchanges → Taken source.left source'.left more → source.faults ≤ source'.faults →
    AreHandled host_key start (session_at service source' sink moments) (ahead ++ more) exchanges
handled-read host_key start service source source' sink moments ahead more exchanges h taken rose = record {
  read = h.read ++ more;
  taken = taken-more start.source.left source.left source'.left h.read more h.taken taken;
  whole = ap (λ (bytes : List ℕ). bytes ++ more) h.whole ∙ append_assoc (flat_map (λ (exchange : Exchange). exchange.bytes) exchanges) ahead more;
  messages = h.messages;
  answers = h.answers;
  served = h.served;
  moments = h.moments;
  read_faults = omega (arith, h.read_faults);
}

module _ (host_key : List ℕ) (start : SessionState) (service : ServiceView) (source source' : SourceView) (sink sink' : SinkView) (moments : Option (List ℕ)) (ahead more : List ℕ) (messages : ℕ)
    (goes : GoesOn host_key start (session_at service source sink moments) ahead messages) (same : sink' ≡ sink) (taken : Taken source.left source'.left more) (rose : source.faults ≤ source'.faults) where
  -- the bytes of a message stand in front
  pub goes-read : (bytes held : List ℕ) → ahead ++ more ≡ bytes ++ held → GoesOn host_key start (session_at service source' sink' moments) (bytes ++ held) messages
  goes-read bytes held is =
      subst (λ (front : List ℕ). GoesOn host_key start (session_at service source' sink' moments) front messages) is
      (subst (λ (s : SinkView). GoesOn host_key start (session_at service source' s moments) (ahead ++ more) messages) (sym same) (record {
        exchanges = goes.exchanges;
        underway = record {
          handled = handled-read host_key start service source source' sink moments ahead more goes.exchanges goes.underway.handled taken rose;
          written = goes.underway.written;
          write_faults = goes.underway.write_faults;
        };
        count = goes.count;
        no_last = goes.no_last;
      }))

  -- no further message stands there
  ends-unanswered : (ending : SessionEnd) → EndsSo ending goes.exchanges (ahead ++ more) source'.left → AreWritten start.sink sink goes.exchanges (record { end = ending; messages = messages }) →
      SessionCause ending start.source source' start.sink sink → IsDone host_key start (session_at service source' sink' moments) (record { end = ending; messages = messages })
  ends-unanswered ending ends written cause =
      subst (λ (s : SinkView). IsDone host_key start (session_at service source' s moments) (record { end = ending; messages = messages })) (sym same)
      (done host_key start (session_at service source' sink moments) (ahead ++ more) goes.exchanges (record { end = ending; messages = messages })
      (handled-read host_key start service source source' sink moments ahead more goes.exchanges goes.underway.handled taken rose) (EndsLast-none goes.exchanges goes.no_last) ends written cause goes.underway.write_faults)

  all-answered : AreAnswered start.sink sink goes.exchanges messages
  all-answered = record { count = goes.count; written = goes.underway.written }

  pub turn-ended : HoldsNoMessage (ahead ++ more) → without_blank (ahead ++ more) ≡ [] → IfSome source'.left (λ left. left ≡ []) →
      IsDone host_key start (session_at service source' sink' moments) (record { end = end.Ended; messages = messages })
  turn-ended none blank left = ends-unanswered end.Ended (record { none_last = goes.no_last; no_further = none }, blank, left) all-answered tt

  pub turn-cut_short : HoldsNoMessage (ahead ++ more) → without_blank (ahead ++ more) ≢ [] → IfSome source'.left (λ left. left ≡ []) →
      IsDone host_key start (session_at service source' sink' moments) (record { end = end.CutShort; messages = messages })
  turn-cut_short none some left = ends-unanswered end.CutShort (record { none_last = goes.no_last; no_further = none }, some, left) all-answered tt

  pub turn-read_fault : HoldsNoMessage (ahead ++ more) → Rose source.faults source'.faults →
      IsDone host_key start (session_at service source' sink' moments) (record { end = end.ReadFault; messages = messages })
  turn-read_fault none fault = ends-unanswered end.ReadFault (record { none_last = goes.no_last; no_further = none }) all-answered (rose-later goes.underway.handled.read_faults fault)
    where
      rose-later : {before between now : ℕ} → before ≤ between → Rose between now → Rose before now
      rose-later low rose = omega arith

-- a message stands in front, and is answered
module _ (host_key : List ℕ) (start : SessionState) (service service' : ServiceView) (source : SourceView) (sink sink' : SinkView) (moments moments' : Option (List ℕ)) (held : List ℕ) (messages : ℕ) (exchange : Exchange)
    (goes : GoesOn host_key start (session_at service source sink moments) (exchange.bytes ++ held) messages) (is_message : IsMessage exchange.bytes exchange.message)
    (is_answer : IsAnswer host_key exchange.message exchange.answered) (called : IsCalled (calling_at service moments) exchange.answered (calling_at service' moments')) where
  exchanges : List Exchange
  exchanges = goes.exchanges ++ exchange ∷ []

  handled-more : AreHandled host_key start (session_at service' source sink' moments') held exchanges
  unfolding exchanges
  handled-more =
      let h = goes.underway.handled in
      let bytes = λ (e : Exchange). e.bytes in
      record {
        read = h.read;
        taken = h.taken;
        whole = h.whole ∙ sym (append_assoc (flat_map bytes goes.exchanges) exchange.bytes held) ∙ ap (λ (front : List ℕ). front ++ held) (sym (flat_map-one bytes goes.exchanges exchange));
        messages = All-one (λ (e : Exchange). IsMessage e.bytes e.message) goes.exchanges exchange h.messages is_message;
        answers = All-one (λ (e : Exchange). IsAnswer host_key e.message e.answered) goes.exchanges exchange h.answers is_answer;
        served = rw (flat_map-one (λ (e : Exchange). call_made e.answered) goes.exchanges exchange, flat_map-one (λ (e : Exchange). result_given e.answered) goes.exchanges exchange)
            (AreServed-called start.service (calls_of goes.exchanges) (results_of goes.exchanges) (calling_at service moments) (calling_at service' moments') exchange.answered h.served called);
        moments = rw (flat_map-one (λ (e : Exchange). call_made e.answered) goes.exchanges exchange)
            (AreMoments-called start.moments (calls_of goes.exchanges) (calling_at service moments) (calling_at service' moments') exchange.answered h.moments called);
        read_faults = h.read_faults;
      }

  last : EndsLast exchanges
  unfolding exchanges
  last = EndsLast-one goes.exchanges exchange goes.no_last

  module _ (text waiting : List ℕ) (is_text : text ≡ exchange_text (messages + 1) exchange) where
    -- a write failed
    pub answer-broken : (e : WriteFault) → Flushes {T = Unit {0}} sink sink' text waiting (Err e) → IsDone host_key start (session_at service' source sink' moments') (record { end = end.WriteFault; messages = messages })
    unfolding exchanges
    answer-broken e flushes =
        let (sent, appends, part) = flushes.sends.broken in
        done host_key start (session_at service' source sink' moments') held exchanges (record { end = end.WriteFault; messages = messages }) handled-more last tt
        (record {
          answered = goes.exchanges;
          last = exchange;
          all = refl;
          count = goes.count;
          part = sent;
          proper = rw (← is_text) part;
          written = Appends_more start.sink sink sink' (texts_behind 0 goes.exchanges) sent goes.underway.written appends;
        })
        (rose-later goes.underway.write_faults flushes.sends.cause) (omega (arith, goes.underway.write_faults, flushes.sends.faults))
      where
        rose-later : {before between now : ℕ} → before ≤ between → Rose between now → Rose before now
        rose-later low rose = omega arith

    module _ (flushes : Flushes {T = Unit {0}} {E = WriteFault} sink sink' text waiting (Ok tt)) where
      written-more : Appends start.sink sink' (texts_behind 0 exchanges)
      unfolding exchanges
      written-more =
          let number : messages + 1 ≡ 0 + length goes.exchanges + 1 = omega (arith, goes.count) in
          let all : texts_behind 0 goes.exchanges ++ text ≡ texts_behind 0 (goes.exchanges ++ exchange ∷ []) =
          ap (λ (bytes : List ℕ). texts_behind 0 goes.exchanges ++ bytes) is_text ∙ sym (texts_behind-one 0 (messages + 1) goes.exchanges exchange number) in
          subst (λ (bytes : List ℕ). Appends start.sink sink' bytes) all (Appends_more start.sink sink sink' (texts_behind 0 goes.exchanges) text goes.underway.written flushes.sends.sent)

      counted : messages + 1 ≡ length exchanges
      unfolding exchanges
      counted = omega (arith, goes.count, length-append goes.exchanges (exchange ∷ []))

      low : start.sink.faults ≤ sink'.faults
      low = omega (arith, goes.underway.write_faults, flushes.sends.faults)

      -- the session goes on
      pub answer-on : is_last (messages + 1) exchange.message ≡ false → GoesOn host_key start (session_at service' source sink' moments') held (messages + 1)
      unfolding exchanges
      answer-on other = record {
        exchanges = exchanges;
        underway = record { handled = handled-more; written = written-more; write_faults = low };
        count = counted;
        no_last = HasNoLast-one goes.exchanges exchange goes.no_last (subst (λ (n : ℕ). is_last (n + 1) exchange.message ≡ false) goes.count other);
      }

      ends : (ending : SessionEnd) → EndsSo ending exchanges held source.left → AreWritten start.sink sink' exchanges (record { end = ending; messages = messages + 1 }) →
          SessionCause ending start.source source start.sink sink' → IsDone host_key start (session_at service' source sink' moments') (record { end = ending; messages = messages + 1 })
      ends ending so written cause = done host_key start (session_at service' source sink' moments') held exchanges (record { end = ending; messages = messages + 1 }) handled-more last so written cause low

      -- the message ends the session by a judgement
      pub answer-malformed : (head : Option HeadValue) → exchange.message ≡ Faulty head → IsDone host_key start (session_at service' source sink' moments') (record { end = end.Malformed; messages = messages + 1 })
      unfolding exchanges
      answer-malformed head is = ends end.Malformed (exchange, (goes.exchanges, refl), (head, is)) (record { count = counted; written = written-more }) tt

      -- it asks to close
      pub answer-closed : (head : HeadValue) (body : List ℕ) → exchange.message ≡ Whole head body → ends_session exchange.message ≡ true →
          IsDone host_key start (session_at service' source sink' moments') (record { end = end.Closed; messages = messages + 1 })
      unfolding exchanges
      answer-closed head body is closes = ends end.Closed (exchange, (goes.exchanges, refl), (head, body, is, closes)) (record { count = counted; written = written-more }) tt

      -- it is the last one that is answered
      pub answer-full : messages + 1 ≡ MESSAGES_MAX → ends_session exchange.message ≡ false → IsDone host_key start (session_at service' source sink' moments') (record { end = end.SessionFull; messages = messages + 1 })
      unfolding exchanges
      answer-full full other = ends end.SessionFull (sym counted ∙ full, exchange, (goes.exchanges, refl), other) (record { count = counted; written = written-more }) tt
