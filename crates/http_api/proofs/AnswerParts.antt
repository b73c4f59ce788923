-- The parts of answers, case by case.
use Rattle.std.proofs.Common.{◌≡◌, ℕ, List, [], Option, Some, None, Result, Ok, Err, refl, sym, ap, ◌∙◌}
use Rattle.std.specs.Prelude.{option_map, unwrap_or}
use Rattle.std.specs.Borrow.{Bor}
use Rattle.desk_types.specs.declared.entry.Fault.{Fault}
use Rattle.desk_types.specs.declared.reply.Reply.{Reply}
use Rattle.desk_types.specs.declared.reply.Reply.TheVariants as reply
use Rattle.http_api.specs.declared.answer.Answer.{Answer}
use Rattle.http_api.specs.declared.answer.Answer.TheVariants.{Judged, Served}
use Rattle.http_api.specs.declared.judgement.Judgement.{Judgement}
use Rattle.http_api.specs.AnswerText.{by_judgement_alone, failure_body, fault_name, fault_status, parts_of, parts_of_reply, with_json}
use Rattle.desk_types.specs.declared.refusal.Detail.TheVariants.{Nothing}

pub of_judgement : (answer : Answer) (judgement : Judgement) → answer ≡ Judged judgement → parts_of answer ≡ by_judgement_alone judgement
unfolding parts_of
of_judgement answer judgement is = ap parts_of is

pub of_reply : (answer : Answer) (result : Result Reply Fault) (reply : Reply) → answer ≡ Served result → result ≡ Ok reply → parts_of answer ≡ parts_of_reply reply
unfolding parts_of
of_reply answer result reply is is_ok = ap parts_of is ∙ ap (λ (r : Result Reply Fault). parts_of (Served r)) is_ok

pub of_fault : (answer : Answer) (result : Result Reply Fault) (fault : Fault) → answer ≡ Served result → result ≡ Err fault → parts_of answer ≡ with_json (fault_status fault) (failure_body 0 Nothing (fault_name fault))
unfolding parts_of
of_fault answer result fault is is_err = ap parts_of is ∙ ap (λ (r : Result Reply Fault). parts_of (Served r)) is_err

-- the answer to a call allows no method
reply_allows_none : (given : Reply) → (parts_of_reply given).allow ≡ None
reply_allows_none (reply.Made number) = refl
reply_allows_none reply.Done = refl
reply_allows_none (reply.Credited price) = refl
reply_allows_none (reply.HostDay day) = refl
reply_allows_none (reply.Imported first count) = refl
reply_allows_none (reply.Day report) = refl
reply_allows_none (reply.ShownRows rows) = refl
reply_allows_none (reply.Page spots) = refl
reply_allows_none (reply.Went link) = refl
reply_allows_none (reply.Refused refusal) = refl

pub served_allows_none : (result : Result Reply Fault) → None ≡ (parts_of (Served result)).allow
unfolding parts_of
served_allows_none (Ok given) = sym (reply_allows_none given)
served_allows_none (Err fault) = refl

-- the text of a phrase, where there is one
pub phrase_is : (reason : Option (Bor (List ℕ))) (default : Bor (List ℕ)) (phrase : Option (List ℕ)) → option_map (λ text. text.now) reason ≡ phrase → default.now ≡ [] → (unwrap_or reason default).now ≡ unwrap_or phrase []
phrase_is None default phrase is none = none ∙ ap (λ (p : Option (List ℕ)). unwrap_or p []) is
phrase_is (Some text) default phrase is none = ap (λ (p : Option (List ℕ)). unwrap_or p []) is
