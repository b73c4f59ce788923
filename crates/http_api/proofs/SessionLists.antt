-- Lists of exchanges with one more at their end.
use Rattle.std.proofs.Common.{◌≡◌, ℕ, ◌+◌, ◌⊎◌, inl, inr, List, [], ◌∷◌, ◌++◌, length, Option, IfSome, refl, sym, ap, subst, ◌∙◌, append_assoc, append-nil, arith, false}
use Rattle.std.specs.Prelude.{flat_map, All, Result}
use Rattle.std.specs.Option.{option_map}
use Rattle.std.proofs.lemmas.List.Concat.{flat_map-append}
use Rattle.std.proofs.lemmas.List.Elements.{All-append, All-cons, All-nil}
use Rattle.desk_io.specs.Moments.{moment_now, moments_left}
use Rattle.desk_types.specs.declared.call.Call.{Call}
use Rattle.desk_types.specs.declared.entry.Fault.{Fault}
use Rattle.desk_types.specs.declared.reply.Reply.{Reply}
use Rattle.desk_types.specs.Serving.{ServiceView, AreServed}
use Rattle.desk_types.proofs.ServedInTurn.{AreServed-append, AreServed-one}
use Rattle.http_api.specs.SessionRun.{AreMoments, Answered, ByCall, ByJudgement, Exchange, ForMemory, call_made, exchange_text, is_last, result_given, texts_behind}
use Rattle.http_api.specs.SessionTurn.{CallingState, EndsLast, HasNoLast, IsCalled}

pub flat_map-one : {X A : Type 0} (f : X → List A) (xs : List X) (x : X) → flat_map f (xs ++ x ∷ []) ≡ flat_map f xs ++ f x
flat_map-one f xs x = flat_map-append f xs (x ∷ []) ∙ ap (λ more. flat_map f xs ++ more) (append-nil (f x))

pub All-one : {X : Type 0} (P : X → Type 0) (xs : List X) (x : X) → All P xs → P x → All P (xs ++ x ∷ [])
All-one P xs x every here = All-append P xs (x ∷ []) every (All-cons P x [] here (All-nil P))

pub texts_behind-one : (count number : ℕ) (exchanges : List Exchange) (exchange : Exchange) → number ≡ count + length exchanges + 1 →
    texts_behind count (exchanges ++ exchange ∷ []) ≡ texts_behind count exchanges ++ exchange_text number exchange
unfolding texts_behind
texts_behind-one count number [] exchange is =
    let same : count + 1 ≡ number = omega arith in
    append-nil (exchange_text (count + 1) exchange) ∙ ap (λ (n : ℕ). exchange_text n exchange) same
texts_behind-one count number (first ∷ exchanges) exchange is =
    let later : number ≡ (count + 1) + length exchanges + 1 = omega arith in
    ap (λ (bytes : List ℕ). exchange_text (count + 1) first ++ bytes) (texts_behind-one (count + 1) number exchanges exchange later)
    ∙ sym (append_assoc (exchange_text (count + 1) first) (texts_behind (count + 1) exchanges) (exchange_text number exchange))

AreMoments-one : (before between after : Option (List ℕ)) (calls : List (ℕ × Call)) (call : ℕ × Call) → AreMoments before calls between →
    IfSome between (λ told. call.0 ≡ moment_now told) → after ≡ option_map moments_left between → AreMoments before (calls ++ call ∷ []) after
unfolding AreMoments
AreMoments-one before between after [] call h here left =
    (subst (λ (moments : Option (List ℕ)). IfSome moments (λ told. call.0 ≡ moment_now told)) h here, left ∙ ap (option_map moments_left) h)
AreMoments-one before between after (first ∷ calls) call h here left =
    (h.0, AreMoments-one (option_map moments_left before) between after calls call h.1 here left)

-- the moments with the one of a call, where there is one
pub AreMoments-called : (start : Option (List ℕ)) (calls : List (ℕ × Call)) (now after : CallingState) (answered : Answered) → AreMoments start calls now.moments → IsCalled now answered after →
    AreMoments start (calls ++ call_made answered) after.moments
AreMoments-called start calls now after (ByCall moment call result) h called = AreMoments-one start now.moments after.moments calls (moment, call) h called.1 called.2
AreMoments-called start calls now after (ByJudgement judgement) h called =
    subst (λ (all : List (ℕ × Call)). AreMoments start all after.moments) (sym (append-nil calls)) (subst (λ (state : CallingState). AreMoments start calls state.moments) (sym called) h)
AreMoments-called start calls now after ForMemory h called =
    subst (λ (all : List (ℕ × Call)). AreMoments start all after.moments) (sym (append-nil calls)) (subst (λ (state : CallingState). AreMoments start calls state.moments) (sym called) h)

served-still : (start : ServiceView) (calls : List (ℕ × Call)) (results : List (Result Reply Fault)) (now after : CallingState) → AreServed start calls results now.service → after ≡ now →
    AreServed start (calls ++ []) (results ++ []) after.service
served-still start calls results now after h same =
    subst (λ (all : List (ℕ × Call)). AreServed start all (results ++ []) after.service) (sym (append-nil calls))
    (subst (λ (all : List (Result Reply Fault)). AreServed start calls all after.service) (sym (append-nil results)) (subst (λ (state : CallingState). AreServed start calls results state.service) (sym same) h))

-- the calls that were served with the one of a message, where there is one
pub AreServed-called : (start : ServiceView) (calls : List (ℕ × Call)) (results : List (Result Reply Fault)) (now after : CallingState) (answered : Answered) → AreServed start calls results now.service → IsCalled now answered after →
    AreServed start (calls ++ call_made answered) (results ++ result_given answered) after.service
AreServed-called start calls results now after (ByCall moment call result) h called =
    AreServed-append start now.service after.service calls ((moment, call) ∷ []) results (result ∷ []) h (AreServed-one now.service after.service moment call result called.0)
AreServed-called start calls results now after (ByJudgement judgement) h called = served-still start calls results now after h called
AreServed-called start calls results now after ForMemory h called = served-still start calls results now after h called

-- an exchange of a list with one more at its end is that one, or stands before it
record IsAtEnd (exchanges before after : List Exchange) (last exchange : Exchange) : Type 0 where
  none : after ≡ []
  same : before ≡ exchanges
  is : exchange ≡ last

record IsBefore (exchanges before : List Exchange) (exchange : Exchange) : Type 0 where
  more : List Exchange
  whole : exchanges ≡ before ++ exchange ∷ more

not-nil : (before after : List Exchange) (exchange : Exchange) → [] ≡ before ++ exchange ∷ after → ⊥
not-nil [] after exchange is = cc
not-nil (first ∷ before) after exchange is = cc

place : (exchanges before after : List Exchange) (last exchange : Exchange) → exchanges ++ last ∷ [] ≡ before ++ exchange ∷ after →
    IsAtEnd exchanges before after last exchange ⊎ IsBefore exchanges before exchange
place [] [] after last exchange is = inl (record { none = cc; same = refl; is = cc })
place [] (first ∷ before) after last exchange is =
    let none : [] ≡ before ++ exchange ∷ after = cc in
    absurd (not-nil before after exchange none)
place (first ∷ exchanges) [] after last exchange is =
    let same : first ≡ exchange = cc in
    inr (record { more = exchanges; whole = ap (λ (e : Exchange). e ∷ exchanges) same })
place (first ∷ exchanges) (front ∷ before) after last exchange is =
    let same : first ≡ front = cc in
    let rest : exchanges ++ last ∷ [] ≡ before ++ exchange ∷ after = cc in
    elim (place exchanges before after last exchange rest) [
      | inl end ↦ inl (record { none = end.none; same = ap (λ (e : Exchange). e ∷ before) (sym same) ∙ ap (λ (e : List Exchange). first ∷ e) end.same; is = end.is })
      | inr front_of ↦ inr (record { more = front_of.more; whole = ap (λ (e : List Exchange). first ∷ e) front_of.whole ∙ ap (λ (e : Exchange). e ∷ before ++ exchange ∷ front_of.more) same })
    ]

-- none of them is the last, with one more that is not
pub HasNoLast-one : (exchanges : List Exchange) (last : Exchange) → HasNoLast exchanges → is_last (length exchanges + 1) last.message ≡ false → HasNoLast (exchanges ++ last ∷ [])
HasNoLast-one exchanges last none here = λ before after exchange is. elim (place exchanges before after last exchange is) [
  | inl end ↦ rw (end.same, end.is) here
  | inr front ↦ none before front.more exchange front.whole
]

-- none but one more at the end is the last
pub EndsLast-one : (exchanges : List Exchange) (last : Exchange) → HasNoLast exchanges → EndsLast (exchanges ++ last ∷ [])
EndsLast-one exchanges last none = λ before after exchange is ends. elim (place exchanges before after last exchange is) [
  | inl end ↦ end.none
  | inr front ↦ let not : is_last (length before + 1) exchange.message ≡ false = none before front.more exchange front.whole in absurd (cc)
]

pub EndsLast-none : (exchanges : List Exchange) → HasNoLast exchanges → EndsLast exchanges
EndsLast-none exchanges none = λ before after exchange is ends.
    let not : is_last (length before + 1) exchange.message ≡ false = none before after exchange is in absurd (cc)
