use Rattle.std.proofs.Common.{sym, ap, ◌∙◌}
use Rattle.http_api.specs.AnswerText.{AnswerParts}
use Rattle.http_api.proofs.AnswerParts.{of_fault, of_judgement, of_reply}
use Rattle.http_api.proofs.answer.Answer.content.Goals as goal

pub returns-in-Judged : goal.returns-in-Judged
returns-in-Judged c = sym (ap (λ (parts : AnswerParts). parts.content) (of_judgement c.args.self.now _ c.in-Judged.is))

pub returns-in-Served-Ok : goal.returns-in-Served-Ok
returns-in-Served-Ok c =
    let inner = rw c.in-Served-Ok.is at c.in-Served-Ok.field-0-is in
    c.content_of_reply.ensures ∙ sym (ap (λ (parts : AnswerParts). parts.content) (of_reply c.args.self.now _ _ c.in-Served-Ok.is inner))

pub returns-in-Served-Err : goal.returns-in-Served-Err
returns-in-Served-Err c =
    let inner = rw c.in-Served-Err.is at c.in-Served-Err.field-0-is in
    sym (ap (λ (parts : AnswerParts). parts.content) (of_fault c.args.self.now _ _ c.in-Served-Err.is inner))
