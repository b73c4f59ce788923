use Rattle.desk_io.proofs.Putting.{puts_as}
use Rattle.http_api.proofs.AnswerHead.{closing_is}
use Rattle.http_api.proofs.answer_text.put_head_end.Goals as goal

pub returns-then-closes-clause-puts : goal.returns-then-closes-clause-puts
returns-then-closes-clause-puts g c = puts_as c.put_str.ensures.puts (closing_is c.args.closes c.if-closes.true)
