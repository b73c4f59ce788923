use Rattle.desk_io.proofs.Putting.{puts_again, puts_as, puts_broken}
use Rattle.http_api.proofs.AnswerHead.{body_told, text_is, text_of_head, text_with_body}
use Rattle.http_api.proofs.answer_text.put_answer.Goals as goal

pub returns-in_err-put_head-clause-puts : goal.returns-in_err-put_head-clause-puts
returns-in_err-put_head-clause-puts g c =
    puts_as (puts_broken (body_told c.args.answer.now c.args.form) c.in_err-put_head.ensures.puts c.from_residual.ensures.0) (text_is c.args.answer.now c.args.form)

pub returns-then-form-clause-puts : goal.returns-then-form-clause-puts
returns-then-form-clause-puts g c = puts_as c.in_ok-put_head.ensures.puts (text_of_head c.args.answer.now c.args.form c.if-form.true)

pub returns-clause-puts : goal.returns-clause-puts
returns-clause-puts g c = puts_as (puts_again c.in_ok-put_head.ensures.puts c.put_body.ensures.puts) (text_with_body c.args.answer.now c.args.form c.if-form.false)
