-- A session: the messages that the bytes of a link spell, the calls that are made of them, and the texts that answer them.
use Rattle.std.specs.Prelude.{◌≡◌, ◌≢◌, ℕ, ◌+◌, Bool, true, false, ◌==◌, ◌||◌, List, [], ◌∷◌, ◌++◌, length, flat_map, All, Option, IfSome, option_map, Result, Err, ⊤}
use Rattle.desk_io.specs.Faults.{Rose}
use Rattle.desk_io.specs.Moments.{moment_now, moments_left}
use Rattle.desk_io.specs.Reading.{Taken}
use Rattle.desk_io.specs.SinkView.{SinkView}
use Rattle.desk_io.specs.SourceView.{SourceView}
use Rattle.desk_io.specs.Writing.{Appends, IsProperPrefix}
use Rattle.desk_types.specs.declared.call.Call.{Call}
use Rattle.desk_types.specs.declared.entry.Fault.{Fault}
use Rattle.desk_types.specs.declared.entry.Fault.TheVariants as fault
use Rattle.desk_types.specs.declared.reply.Reply.{Reply}
use Rattle.desk_types.specs.Serving.{ServiceView, AreServed}
use Rattle.http_api.specs.declared.answer.Answer.{Answer}
use Rattle.http_api.specs.declared.answer.Answer.TheVariants.{Judged, Served}
use Rattle.http_api.specs.declared.answer.AnswerForm.{AnswerForm}
use Rattle.http_api.specs.declared.ending.Session.{Session}
use Rattle.http_api.specs.declared.ending.SessionEnd.{SessionEnd}
use Rattle.http_api.specs.declared.ending.SessionEnd.TheVariants.{Ended, Closed, CutShort, Malformed, SessionFull, ReadFault, WriteFault, NoMemory}
use Rattle.http_api.specs.declared.judgement.Judgement.{Judgement}
use Rattle.http_api.specs.declared.limits.TheConstants.{MESSAGES_MAX}
use Rattle.http_api.specs.declared.verdict.Verdict.TheVariants.{Asks, Fails}
use Rattle.http_api.specs.AnswerText.{answer_text}
use Rattle.http_api.specs.HeadEnd.{without_blank}
use Rattle.http_api.specs.HeadValue.{HeadValue}
use Rattle.http_api.specs.Message.{Message, Faulty, Whole, IsMessage, HoldsNoMessage, ends_session, is_bodiless}
use Rattle.http_api.specs.Verdict.{IsVerdict}

-- how a message is answered: by a judgement, by a call that is made at a moment and has a result, or by want of memory
-- before its call or its fixed answer
pub data Answered : Type 0 where
  ByJudgement : Judgement → Answered
  ByCall : ℕ → Call → Result Reply Fault → Answered
  ForMemory : Answered

-- a message with its bytes, and how it is answered
pub record Exchange : Type 0 where
  pub bytes : List ℕ
  pub message : Message
  pub answered : Answered

-- the answer is the one that the verdict asks for, by the key of the host; memory is not wanted for what ends the session
abbrev pub IsAnswer : List ℕ → Message → Answered → Type 0
IsAnswer host_key message (ByJudgement judgement) = IsVerdict host_key message (Fails judgement)
IsAnswer host_key message (ByCall moment call result) = IsVerdict host_key message (Asks call)
IsAnswer host_key (Faulty head) ForMemory = ⊥
IsAnswer host_key (Whole head body) ForMemory = ⊤

-- a message of the session, by its number from 1, is the last one that is answered
abbrev pub is_last : ℕ → Message → Bool
is_last number message = ends_session message || number == MESSAGES_MAX

-- the text of an answer to a message, by its number from 1
abbrev pub answer_of : Answered → Answer
answer_of (ByJudgement judgement) = Judged judgement
answer_of (ByCall moment call result) = Served result
answer_of ForMemory = Served (Err fault.NoMemory)

abbrev pub exchange_text : ℕ → Exchange → List ℕ
exchange_text number exchange =
    let form : AnswerForm = record { bodiless = is_bodiless exchange.message; closes = is_last number exchange.message } in
    answer_text (answer_of exchange.answered) form

-- the texts of the answers behind so many earlier ones
unfoldable pub texts_behind : ℕ → List Exchange → List ℕ
texts_behind count [] = []
texts_behind count (exchange ∷ more) = exchange_text (count + 1) exchange ++ texts_behind (count + 1) more

-- the calls that are made, with their moments, and their results
abbrev pub call_made : Answered → List (ℕ × Call)
call_made (ByCall moment call result) = (moment, call) ∷ []
call_made (ByJudgement judgement) = []
call_made ForMemory = []

abbrev pub result_given : Answered → List (Result Reply Fault)
result_given (ByCall moment call result) = result ∷ []
result_given (ByJudgement judgement) = []
result_given ForMemory = []

abbrev pub calls_of : List Exchange → List (ℕ × Call)
calls_of exchanges = flat_map (λ exchange. call_made exchange.answered) exchanges

abbrev pub results_of : List Exchange → List (Result Reply Fault)
results_of exchanges = flat_map (λ exchange. result_given exchange.answered) exchanges

-- the moments of calls are those that a clock gave, one a call, where it tells them
unfoldable pub AreMoments : Option (List ℕ) → List (ℕ × Call) → Option (List ℕ) → Type 0
AreMoments moments [] moments_now = moments_now ≡ moments
AreMoments moments (call ∷ more) moments_now =
    IfSome moments (λ told. call.0 ≡ moment_now told) × AreMoments (option_map moments_left moments) more moments_now

-- messages stand one behind another in front of the bytes, none but the last of them ends the session, and each has its answer
pub record AreExchanged (host_key bytes : List ℕ) (exchanges : List Exchange) (rest : List ℕ) : Type 0 where
  pub whole : bytes ≡ flat_map (λ exchange. exchange.bytes) exchanges ++ rest
  pub messages : All (λ exchange. IsMessage exchange.bytes exchange.message) exchanges
  pub answers : All (λ exchange. IsAnswer host_key exchange.message exchange.answered) exchanges
  pub on : (before after : List Exchange) (exchange : Exchange) → exchanges ≡ before ++ exchange ∷ after
      → is_last (length before + 1) exchange.message ≡ true → after ≡ []

-- none of the messages ends the session, and no further one stands in the rest
pub record GoOn (exchanges : List Exchange) (rest : List ℕ) : Type 0 where
  pub none_last : (before after : List Exchange) (exchange : Exchange) → exchanges ≡ before ++ exchange ∷ after
      → is_last (length before + 1) exchange.message ≡ false
  pub no_further : HoldsNoMessage rest

-- the last message
abbrev pub IsLast : List Exchange → Exchange → Type 0
IsLast exchanges exchange = (before : List Exchange) × (exchanges ≡ before ++ exchange ∷ [])

abbrev pub IsFaulty : Message → Type 0
IsFaulty message = (head : Option HeadValue) × (message ≡ Faulty head)

abbrev pub AsksToClose : Message → Type 0
AsksToClose message =
    (head : HeadValue) × (body : List ℕ) × (message ≡ Whole head body) × (ends_session message ≡ true)

-- how a session ends by its messages and the bytes behind them, with what is left of the link
abbrev pub EndsSo : SessionEnd → List Exchange → List ℕ → Option (List ℕ) → Type 0
EndsSo Ended exchanges rest left =
    GoOn exchanges rest × (without_blank rest ≡ []) × IfSome left (λ bytes. bytes ≡ [])
EndsSo CutShort exchanges rest left =
    GoOn exchanges rest × (without_blank rest ≢ []) × IfSome left (λ bytes. bytes ≡ [])
EndsSo Closed exchanges rest left = (last : Exchange) × IsLast exchanges last × AsksToClose last.message
EndsSo Malformed exchanges rest left = (last : Exchange) × IsLast exchanges last × IsFaulty last.message
EndsSo SessionFull exchanges rest left =
    (length exchanges ≡ MESSAGES_MAX) × (last : Exchange) × IsLast exchanges last × (ends_session last.message ≡ false)
EndsSo ReadFault exchanges rest left = GoOn exchanges rest
EndsSo WriteFault exchanges rest left = ⊤
EndsSo NoMemory exchanges rest left = (exchanges ≡ []) × (rest ≡ [])

-- the first of the answers are written, and a beginning of the last one's text
pub record IsBrokenOff (sink sink_now : SinkView) (exchanges : List Exchange) (messages : ℕ) : Type 0 where
  pub answered : List Exchange
  pub last : Exchange
  pub all : exchanges ≡ answered ++ last ∷ []
  pub count : messages ≡ length answered
  pub part : List ℕ
  pub proper : IsProperPrefix part (exchange_text (messages + 1) last)
  pub written : Appends sink sink_now (texts_behind 0 answered ++ part)

-- the answers are written, and counted: all of them, but after a failed write
pub record AreAnswered (sink sink_now : SinkView) (exchanges : List Exchange) (messages : ℕ) : Type 0 where
  pub count : messages ≡ length exchanges
  pub written : Appends sink sink_now (texts_behind 0 exchanges)

abbrev pub WrittenBy : SessionEnd → SinkView → SinkView → List Exchange → ℕ → Type 0
WrittenBy WriteFault sink sink_now exchanges messages = IsBrokenOff sink sink_now exchanges messages
WrittenBy Ended sink sink_now exchanges messages = AreAnswered sink sink_now exchanges messages
WrittenBy Closed sink sink_now exchanges messages = AreAnswered sink sink_now exchanges messages
WrittenBy CutShort sink sink_now exchanges messages = AreAnswered sink sink_now exchanges messages
WrittenBy Malformed sink sink_now exchanges messages = AreAnswered sink sink_now exchanges messages
WrittenBy SessionFull sink sink_now exchanges messages = AreAnswered sink sink_now exchanges messages
WrittenBy ReadFault sink sink_now exchanges messages = AreAnswered sink sink_now exchanges messages
WrittenBy NoMemory sink sink_now exchanges messages = AreAnswered sink sink_now exchanges messages

abbrev pub AreWritten : SinkView → SinkView → List Exchange → Session → Type 0
AreWritten sink sink_now exchanges session = WrittenBy session.end sink sink_now exchanges session.messages

-- a fault is the end only where its count rose
abbrev pub SessionCause : SessionEnd → SourceView → SourceView → SinkView → SinkView → Type 0
SessionCause ReadFault source source_now sink sink_now = Rose source.faults source_now.faults
SessionCause WriteFault source source_now sink sink_now = Rose sink.faults sink_now.faults
SessionCause Ended source source_now sink sink_now = ⊤
SessionCause Closed source source_now sink sink_now = ⊤
SessionCause CutShort source source_now sink sink_now = ⊤
SessionCause Malformed source source_now sink sink_now = ⊤
SessionCause SessionFull source source_now sink sink_now = ⊤
SessionCause NoMemory source source_now sink sink_now = ⊤

-- a service, the two sides of a link, and the moments of a clock, before or after a session
pub record SessionState : Type 0 where
  pub service : ServiceView
  pub source : SourceView
  pub sink : SinkView
  pub moments : Option (List ℕ)

abbrev pub session_at : ServiceView → SourceView → SinkView → Option (List ℕ) → SessionState
session_at service source sink moments =
    record { service = service; source = source; sink = sink; moments = moments }

-- a session, by the key of the host: bytes were read, which spell messages; the calls that these ask for were made and
-- served, at the moments of the clock; and the texts of the answers were written
pub record IsSession (host_key : List ℕ) (before after : SessionState) (session : Session) : Type 0 where
  pub bytes : List ℕ
  pub rest : List ℕ
  pub exchanges : List Exchange
  pub read : Taken before.source.left after.source.left bytes
  pub spelled : AreExchanged host_key bytes exchanges rest
  pub ends : EndsSo session.end exchanges rest after.source.left
  pub served : AreServed before.service (calls_of exchanges) (results_of exchanges) after.service
  pub moments : AreMoments before.moments (calls_of exchanges) after.moments
  pub written : AreWritten before.sink after.sink exchanges session
  pub cause : SessionCause session.end before.source after.source before.sink after.sink
