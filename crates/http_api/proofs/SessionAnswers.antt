-- Answers that are written, by the verdict on a message or a judgement.
use Rattle.std.proofs.Common.{◌≡◌, ℕ, ◌+◌, ◌<◌, Bool, true, false, List, [], ◌∷◌, ◌++◌, length, Option, Some, None, Result, Ok, Err, IfOk, refl, sym, ap, subst, ◌∙◌, length-append, arith}
use Rattle.std.specs.Prelude.{if◌then◌else◌, ◌||◌, ◌==◌, bytes_eq, codes}
use Rattle.std.proofs.lemmas.Bool.{eqb-true}
use Rattle.desk_io.specs.Putting.{Flushes}
use Rattle.desk_io.specs.SinkView.{SinkView}
use Rattle.desk_io.specs.SourceView.{SourceView}
use Rattle.desk_io.specs.declared.out_buf.WriteFault.{WriteFault}
use Rattle.desk_types.specs.Serving.{ServiceView}
use Rattle.http_api.specs.declared.answer.Answer.{Answer}
use Rattle.http_api.specs.declared.answer.Answer.TheVariants.{Judged}
use Rattle.http_api.specs.declared.answer.AnswerForm.{AnswerForm}
use Rattle.http_api.specs.declared.ending.SessionEnd.{SessionEnd}
use Rattle.http_api.specs.declared.ending.SessionEnd.TheVariants as end
use Rattle.http_api.specs.declared.judgement.Judgement.TheVariants.{NotBuilt}
use Rattle.http_api.specs.declared.limits.TheConstants.{MESSAGES_MAX}
use Rattle.http_api.specs.declared.serving.Turn.{Turn}
use Rattle.http_api.specs.declared.serving.Turn.TheVariants as turn
use Rattle.http_api.specs.declared.verdict.Verdict.{Verdict}
use Rattle.http_api.specs.declared.verdict.Verdict.TheVariants.{Asks, Fails}
use Rattle.http_api.specs.AnswerText.{answer_text}
use Rattle.http_api.specs.Fields.{asks_to_close}
use Rattle.http_api.specs.HeadValue.{HeadValue}
use Rattle.http_api.specs.Message.{Faulty, Whole, IsMessage, is_bodiless}
use Rattle.http_api.specs.SessionRun.{Answered, ByCall, ByJudgement, Exchange, ForMemory, IsAnswer, SessionState, answer_of, exchange_text, is_last, session_at}
use Rattle.http_api.specs.SessionTurn.{GoesBehind, GoesOn, IsAnswered, IsDone, IsFor, TurnGoes, calling_at}
use Rattle.http_api.specs.Verdict.{IsVerdictOn}
use Rattle.http_api.proofs.SessionMoves.{answer-broken, answer-closed, answer-full, answer-malformed, answer-on}

-- an answer that is for the verdict is the one that the verdict asks for
answer-is : {E : Type 0} (host_key : List ℕ) (head : HeadValue) (body : List ℕ) (judged : Result Verdict E) (answered : Answered) → IfOk judged (λ verdict. IsVerdictOn host_key head body verdict) → IsFor judged answered →
    IsAnswer host_key (Whole head body) answered
answer-is host_key head body (Ok verdict) (ByCall moment call result) right is_for = let same : verdict ≡ Asks call = cc in subst (λ (v : Verdict). IsVerdictOn host_key head body v) same right
answer-is host_key head body (Ok verdict) (ByJudgement judgement) right is_for = let same : verdict ≡ Fails judgement = cc in subst (λ (v : Verdict). IsVerdictOn host_key head body v) same right
answer-is host_key head body (Ok verdict) ForMemory right is_for = absurd is_for
answer-is host_key head body (Err error) (ByCall moment call result) right is_for = absurd (cc)
answer-is host_key head body (Err error) (ByJudgement judgement) right is_for = absurd (cc)
answer-is host_key head body (Err error) ForMemory right is_for = tt

text-is : (answer : Answer) (bodiless closes : Bool) (number : ℕ) (exchange : Exchange) → answer ≡ answer_of exchange.answered → bodiless ≡ is_bodiless exchange.message → closes ≡ is_last number exchange.message →
    answer_text answer (record { bodiless = bodiless; closes = closes }) ≡ exchange_text number exchange
text-is answer bodiless closes number exchange is_answer is_form is_closing = rw (is_answer, is_form, is_closing) refl

full-is : (number : ℕ) → (number == MESSAGES_MAX) ≡ true → number ≡ MESSAGES_MAX
full-is number is = eqb-true number MESSAGES_MAX is

module _ (host_key : List ℕ) (start : SessionState) (service service' : ServiceView) (source source' : SourceView) (sink sink' : SinkView) (moments moments' : Option (List ℕ)) (bytes held waiting : List ℕ) (messages : ℕ)
    (same : source' ≡ source) where
  -- a message that ends the session by a judgement
  module _ (head : Option HeadValue) (bodiless : Bool) (goes : GoesOn host_key start (session_at service source sink moments) (bytes ++ held) messages) (is_message : IsMessage bytes (Faulty head))
      (is_form : bodiless ≡ is_bodiless (Faulty head)) where
    refused : Exchange
    refused = record { bytes = bytes; message = Faulty head; answered = ByJudgement NotBuilt }

    refusal : answer_text (Judged NotBuilt) (record { bodiless = bodiless; closes = true }) ≡ exchange_text (messages + 1) refused
    unfolding refused
    refusal = text-is (Judged NotBuilt) bodiless true (messages + 1) refused refl is_form refl

    pub refuse-answered : Flushes {T = Unit {0}} {E = WriteFault} sink sink' (answer_text (Judged NotBuilt) (record { bodiless = bodiless; closes = true })) waiting (Ok tt) →
        IsDone host_key start (session_at service source' sink' moments) (record { end = end.Malformed; messages = messages + 1 })
    unfolding refused
    refuse-answered flushes =
        rw same
        (answer-malformed host_key start service service source sink sink' moments moments held messages refused goes is_message refl refl
        (answer_text (Judged NotBuilt) (record { bodiless = bodiless; closes = true })) waiting refusal flushes head refl)

    pub refuse-broken : (e : WriteFault) → Flushes {T = Unit {0}} sink sink' (answer_text (Judged NotBuilt) (record { bodiless = bodiless; closes = true })) waiting (Err e) →
        IsDone host_key start (session_at service source' sink' moments) (record { end = end.WriteFault; messages = messages })
    unfolding refused
    refuse-broken e flushes =
        rw same
        (answer-broken host_key start service service source sink sink' moments moments held messages refused goes is_message refl refl
        (answer_text (Judged NotBuilt) (record { bodiless = bodiless; closes = true })) waiting refusal e flushes)

  -- a head with its body
  module _ {E : Type 0} (head told : HeadValue) (body held_body : List ℕ) (goes : GoesOn host_key start (session_at service source sink moments) (bytes ++ held) messages) (is_message : IsMessage bytes (Whole head body))
      (head_is : told ≡ head) (body_is : held_body ≡ body) (judged : Result Verdict E) (answer : Answer) (right : IfOk judged (λ verdict. IsVerdictOn host_key told held_body verdict))
      (is_answered : IsAnswered judged (calling_at service moments) (calling_at service' moments') answer) (form : AnswerForm) (closes : Bool)
      (is_form : form ≡ record { bodiless = bytes_eq told.method (codes "HEAD"); closes = closes || messages + 1 == MESSAGES_MAX }) (is_closing : closes ≡ asks_to_close told) where
    closing : closes ≡ asks_to_close head
    closing = is_closing ∙ ap asks_to_close head_is

    exchange : Exchange
    exchange = record { bytes = bytes; message = Whole head body; answered = is_answered.answered }

    text : List ℕ
    text = answer_text answer form

    text-whole : text ≡ exchange_text (messages + 1) exchange
    unfolding exchange text
    text-whole =
        ap (answer_text answer) is_form
        ∙ text-is answer (bytes_eq told.method (codes "HEAD")) (closes || messages + 1 == MESSAGES_MAX) (messages + 1) exchange is_answered.is
        (ap (λ (h : HeadValue). bytes_eq h.method (codes "HEAD")) head_is) (ap (λ (b : Bool). b || messages + 1 == MESSAGES_MAX) closing)

    right-answer : IsAnswer host_key (Whole head body) is_answered.answered
    right-answer =
        answer-is host_key head body judged is_answered.answered
        (subst (λ (h : HeadValue). IfOk judged (λ verdict. IsVerdictOn host_key h body verdict)) head_is (subst (λ (b : List ℕ). IfOk judged (λ verdict. IsVerdictOn host_key told b verdict)) body_is right))
        is_answered.is_for

    pub whole-broken : (e : WriteFault) → Flushes {T = Unit {0}} sink sink' (answer_text answer form) waiting (Err e) →
        IsDone host_key start (session_at service' source' sink' moments') (record { end = end.WriteFault; messages = messages })
    unfolding exchange text
    whole-broken e flushes =
        rw same
        (answer-broken host_key start service service' source sink sink' moments moments' held messages exchange goes is_message right-answer is_answered.called text waiting text-whole e flushes)

    module _ (flushes : Flushes {T = Unit {0}} {E = WriteFault} sink sink' text waiting (Ok tt)) where
      whole-closed : asks_to_close head ≡ true → IsDone host_key start (session_at service' source sink' moments') (record { end = end.Closed; messages = messages + 1 })
      unfolding exchange
      whole-closed ends = answer-closed host_key start service service' source sink sink' moments moments' held messages exchange goes is_message right-answer is_answered.called text waiting text-whole flushes head body refl ends

      whole-full : asks_to_close head ≡ false → (messages + 1 == MESSAGES_MAX) ≡ true → IsDone host_key start (session_at service' source sink' moments') (record { end = end.SessionFull; messages = messages + 1 })
      unfolding exchange
      whole-full other is = answer-full host_key start service service' source sink sink' moments moments' held messages exchange goes is_message right-answer is_answered.called text waiting text-whole flushes (full-is (messages + 1) is) other

      whole-on : asks_to_close head ≡ false → (messages + 1 == MESSAGES_MAX) ≡ false → GoesOn host_key start (session_at service' source sink' moments') held (messages + 1)
      unfolding exchange
      whole-on other fewer = answer-on host_key start service service' source sink sink' moments moments' held messages exchange goes is_message right-answer is_answered.called text waiting text-whole flushes (rw (other, fewer) refl)

      by_end : (closes full : Bool) → closes ≡ asks_to_close head → full ≡ (messages + 1 == MESSAGES_MAX) →
          GoesBehind host_key start (session_at service' source sink' moments') held messages (Ok (if closes then Some end.Closed else (if full then Some end.SessionFull else None)))
      by_end true full closing is = whole-closed (sym closing)
      by_end false true closing is = whole-full (sym closing) (sym is)
      by_end false false closing is = whole-on (sym closing) (sym is)

    pub whole-answered : Flushes {T = Unit {0}} {E = WriteFault} sink sink' (answer_text answer form) waiting (Ok tt) →
        GoesBehind host_key start (session_at service' source' sink' moments') held messages (Ok (if closes then Some end.Closed else (if messages + 1 == MESSAGES_MAX then Some end.SessionFull else None)))
    unfolding text
    whole-answered flushes =
        subst (λ (s : SourceView). GoesBehind host_key start (session_at service' s sink' moments') held messages (Ok (if closes then Some end.Closed else (if messages + 1 == MESSAGES_MAX then Some end.SessionFull else None)))) (sym same)
        (by_end flushes closes (messages + 1 == MESSAGES_MAX) closing refl)

-- a turn that ended the session
pub turn-answered : (host_key : List ℕ) (start now : SessionState) (held : List ℕ) (messages : ℕ) (went : Turn) (ending : SessionEnd) → TurnGoes host_key start now held messages (Ok went) → went ≡ turn.Answered (Some ending) →
    IsDone host_key start now (record { end = ending; messages = messages + 1 })
turn-answered host_key start now held messages went ending goes is = subst (λ (t : Turn). TurnGoes host_key start now held messages (Ok t)) is goes

pub turn-unanswered : (host_key : List ℕ) (start now : SessionState) (held : List ℕ) (messages : ℕ) (went : Turn) (ending : SessionEnd) → TurnGoes host_key start now held messages (Ok went) → went ≡ turn.Unanswered ending →
    IsDone host_key start now (record { end = ending; messages = messages })
turn-unanswered host_key start now held messages went ending goes is = subst (λ (t : Turn). TurnGoes host_key start now held messages (Ok t)) is goes

-- behind as many messages as a session answers it does not go on
last-of : (exchanges : List Exchange) → 0 < length exchanges → (before : List Exchange) × (last : Exchange) × (exchanges ≡ before ++ last ∷ [])
last-of [] some = absurd (omega arith)
last-of (exchange ∷ []) some = ([], exchange, refl)
last-of (exchange ∷ next ∷ more) some =
    let (before, last, is) = last-of (next ∷ more) (omega arith) in
    (exchange ∷ before, last, ap (λ (e : List Exchange). exchange ∷ e) is)

full-not : (ends : Bool) (number : ℕ) → number ≡ MESSAGES_MAX → (ends || number == MESSAGES_MAX) ≡ false → ⊥
full-not true number is not = cc
full-not false number is not = let other : true ≡ false = rw is at not in cc

pub full-ends : (host_key : List ℕ) (start now : SessionState) (held : List ℕ) (messages : ℕ) → messages ≡ MESSAGES_MAX → GoesOn host_key start now held messages → ⊥
full-ends host_key start now held messages full goes =
    let (before, last, is) = last-of goes.exchanges (omega (arith, goes.count)) in
    let number : length before + 1 ≡ MESSAGES_MAX = omega (arith, goes.count, ap length is, length-append before (last ∷ [])) in
    full-not _ (length before + 1) number (goes.no_last before [] last is)
