-- A session on its way: what was read, answered and written so far.
use Rattle.std.specs.Prelude.{◌≡◌, ℕ, ◌+◌, ◌≤◌, true, false, List, [], ◌∷◌, ◌++◌, length, flat_map, All, Option, Some, None, IfSome, option_map, Result, Ok, Err, ⊤}
use Rattle.desk_io.specs.Moments.{moment_now, moments_left}
use Rattle.desk_io.specs.Reading.{Taken}
use Rattle.desk_io.specs.Writing.{Appends}
use Rattle.desk_io.specs.declared.out_buf.WriteFault.{WriteFault}
use Rattle.desk_types.specs.Serving.{ServiceView, AreServed, Serves}
use Rattle.http_api.specs.declared.answer.Answer.{Answer}
use Rattle.http_api.specs.declared.ending.Session.{Session}
use Rattle.http_api.specs.declared.ending.SessionEnd.{SessionEnd}
use Rattle.http_api.specs.declared.ending.SessionEnd.TheVariants as end
use Rattle.http_api.specs.declared.serving.Turn.{Turn}
use Rattle.http_api.specs.declared.serving.Turn.TheVariants as turn
use Rattle.http_api.specs.declared.verdict.Verdict.{Verdict}
use Rattle.http_api.specs.declared.verdict.Verdict.TheVariants.{Asks, Fails}
use Rattle.http_api.specs.Message.{IsMessage}
use Rattle.http_api.specs.SessionRun.{AreMoments, Answered, ByCall, ByJudgement, Exchange, ForMemory, IsAnswer, IsSession, SessionState, answer_of, calls_of, is_last, results_of, texts_behind}

-- since the start these messages were read and their calls were made, and these bytes are read ahead
pub record AreHandled (host_key : List ℕ) (start now : SessionState) (ahead : List ℕ) (exchanges : List Exchange)
    : Type 0 where
  pub read : List ℕ
  pub taken : Taken start.source.left now.source.left read
  pub whole : read ≡ flat_map (λ exchange. exchange.bytes) exchanges ++ ahead
  pub messages : All (λ exchange. IsMessage exchange.bytes exchange.message) exchanges
  pub answers : All (λ exchange. IsAnswer host_key exchange.message exchange.answered) exchanges
  pub served : AreServed start.service (calls_of exchanges) (results_of exchanges) now.service
  pub moments : AreMoments start.moments (calls_of exchanges) now.moments
  pub read_faults : start.source.faults ≤ now.source.faults

-- their answers are written
pub record IsUnderway (host_key : List ℕ) (start now : SessionState) (ahead : List ℕ) (exchanges : List Exchange)
    : Type 0 where
  pub handled : AreHandled host_key start now ahead exchanges
  pub written : Appends start.sink now.sink (texts_behind 0 exchanges)
  pub write_faults : start.sink.faults ≤ now.sink.faults

-- none of the messages but the last of them was the last one to be answered
abbrev pub EndsLast : List Exchange → Type 0
EndsLast exchanges =
    (before after : List Exchange) (exchange : Exchange) → exchanges ≡ before ++ exchange ∷ after
    → is_last (length before + 1) exchange.message ≡ true → after ≡ []

-- none of the messages was the last one to be answered
abbrev pub HasNoLast : List Exchange → Type 0
HasNoLast exchanges =
    (before after : List Exchange) (exchange : Exchange) → exchanges ≡ before ++ exchange ∷ after
    → is_last (length before + 1) exchange.message ≡ false

-- so many messages were answered since the start, none of them the last one
pub record GoesOn (host_key : List ℕ) (start now : SessionState) (ahead : List ℕ) (messages : ℕ) : Type 0 where
  pub exchanges : List Exchange
  pub underway : IsUnderway host_key start now ahead exchanges
  pub count : messages ≡ length exchanges
  pub no_last : HasNoLast exchanges

-- the session is done
pub record IsDone (host_key : List ℕ) (start now : SessionState) (left : Session) : Type 0 where
  pub session : IsSession host_key start now left
  pub read_faults : start.source.faults ≤ now.source.faults
  pub write_faults : start.sink.faults ≤ now.sink.faults

-- a message was answered behind so many, and ended the session or did not; or a write failed
abbrev pub GoesBehind :
    List ℕ → SessionState → SessionState → List ℕ → ℕ → Result (Option SessionEnd) WriteFault → Type 0
GoesBehind host_key start now ahead messages (Ok None) = GoesOn host_key start now ahead (messages + 1)
GoesBehind host_key start now ahead messages (Ok (Some ending)) =
    IsDone host_key start now (record { end = ending; messages = messages + 1 })
GoesBehind host_key start now ahead messages (Err fault) =
    IsDone host_key start now (record { end = end.WriteFault; messages = messages })

-- a turn went so behind so many messages
abbrev pub TurnGoes : List ℕ → SessionState → SessionState → List ℕ → ℕ → Result Turn WriteFault → Type 0
TurnGoes host_key start now ahead messages (Ok (turn.Answered ending)) =
    GoesBehind host_key start now ahead messages (Ok ending)
TurnGoes host_key start now ahead messages (Ok (turn.Unanswered ending)) =
    IsDone host_key start now (record { end = ending; messages = messages })
TurnGoes host_key start now ahead messages (Err fault) = GoesBehind host_key start now ahead messages (Err fault)

-- a service and the moments of a clock, before or after a call
pub record CallingState : Type 0 where
  pub service : ServiceView
  pub moments : Option (List ℕ)

abbrev pub calling_at : ServiceView → Option (List ℕ) → CallingState
calling_at service moments = record { service = service; moments = moments }

-- the call that an answer tells of was made, at the moment of the clock; where it tells of none, nothing was done
abbrev pub IsCalled : CallingState → Answered → CallingState → Type 0
IsCalled before (ByCall moment call result) after =
    Serves before.service moment call result after.service
    × IfSome before.moments (λ told. moment ≡ moment_now told)
    × (after.moments ≡ option_map moments_left before.moments)
IsCalled before (ByJudgement judgement) after = after ≡ before
IsCalled before ForMemory after = after ≡ before

-- the answer is for this verdict, or for want of memory
abbrev pub IsFor : {E : Type 0} → Result Verdict E → Answered → Type 0
IsFor judged (ByCall moment call result) = judged ≡ Ok (Asks call)
IsFor judged (ByJudgement judgement) = judged ≡ Ok (Fails judgement)
IsFor (Ok verdict) ForMemory = ⊥
IsFor (Err error) ForMemory = ⊤

-- an answer was made for a verdict
pub record IsAnswered {E : Type 0} (judged : Result Verdict E) (before after : CallingState) (answer : Answer)
    : Type 0 where
  pub answered : Answered
  pub is : answer ≡ answer_of answered
  pub is_for : IsFor judged answered
  pub called : IsCalled before answered after
