use Rattle.std.proofs.Common.{◌≡◌, ◌∙◌, ℕ, List, sym, ap}
use Rattle.desk_io.proofs.Putting.{puts_as}
use Rattle.desk_types.specs.declared.refusal.Detail.{Detail}
use Rattle.desk_types.specs.declared.refusal.Detail.TheVariants.{Nothing}
use Rattle.http_api.specs.declared.judgement.Judgement.{Judgement}
use Rattle.http_api.specs.AnswerText.{AnswerParts, failure_body, judgement_detail, judgement_name}
use Rattle.http_api.proofs.AnswerParts.{of_fault, of_judgement, of_reply}
use Rattle.http_api.proofs.answer_body.put_body.Goals as goal

failure_is : (judgement : Judgement) (detail : Detail) (name : List ℕ) → detail ≡ judgement_detail judgement → name ≡ judgement_name judgement → failure_body 0 detail name ≡ failure_body 0 (judgement_detail judgement) (judgement_name judgement)
failure_is judgement detail name told named = ap (λ (d : Detail). failure_body 0 d name) told ∙ ap (failure_body 0 (judgement_detail judgement)) named

pub returns-in-Judged-clause-puts : goal.returns-in-Judged-clause-puts
returns-in-Judged-clause-puts g c =
    puts_as c.put_failure.ensures.puts (failure_is c.in-Judged.judgement _ _ c.detail.ensures c.name.ensures ∙ sym (ap (λ (parts : AnswerParts). parts.body) (of_judgement c.args.answer.now _ c.in-Judged.is)))

pub returns-in-Served-Ok-clause-puts : goal.returns-in-Served-Ok-clause-puts
returns-in-Served-Ok-clause-puts g c =
    let inner = rw c.in-Served-Ok.is at c.in-Served-Ok.field-0-is in
    puts_as c.put_reply.ensures.puts (sym (ap (λ (parts : AnswerParts). parts.body) (of_reply c.args.answer.now _ _ c.in-Served-Ok.is inner)))

pub returns-in-Served-Err-clause-puts : goal.returns-in-Served-Err-clause-puts
returns-in-Served-Err-clause-puts g c =
    let inner = rw c.in-Served-Err.is at c.in-Served-Err.field-0-is in
    puts_as c.put_failure-in-Served-Err.ensures.puts (ap (failure_body 0 Nothing) c.fault_name.ensures ∙ sym (ap (λ (parts : AnswerParts). parts.body) (of_fault c.args.answer.now _ _ c.in-Served-Err.is inner)))
