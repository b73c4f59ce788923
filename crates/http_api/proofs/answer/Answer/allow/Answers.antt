use Rattle.std.proofs.Common.{sym, ap, ◌∙◌}
use Rattle.http_api.specs.AnswerText.{AnswerParts}
use Rattle.http_api.specs.declared.answer.Answer.{Answer}
use Rattle.http_api.specs.AnswerText.{parts_of}
use Rattle.http_api.proofs.AnswerParts.{of_judgement, served_allows_none}
use Rattle.http_api.proofs.answer.Answer.allow.Goals as goal

pub returns-in-Judged : goal.returns-in-Judged
returns-in-Judged c = c.allowed.ensures ∙ sym (ap (λ (parts : AnswerParts). parts.allow) (of_judgement c.args.self.now _ c.in-Judged.is))

pub returns-in-Served : goal.returns-in-Served
returns-in-Served c = served_allows_none c.in-Served.field-0 ∙ sym (ap (λ (answer : Answer). (parts_of answer).allow) c.in-Served.is)
