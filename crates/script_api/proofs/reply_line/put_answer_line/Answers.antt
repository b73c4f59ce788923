use Rattle.desk_io.proofs.Putting.{puts_again, puts_broken}
use Rattle.script_api.proofs.reply_line.put_answer_line.Goals as goal

pub returns-in_err-put_answer_text-clause-puts : goal.returns-in_err-put_answer_text-clause-puts
returns-in_err-put_answer_text-clause-puts g c = puts_broken _ c.in_err-put_answer_text.ensures.puts c.from_residual.ensures.0

pub returns-clause-puts : goal.returns-clause-puts
returns-clause-puts g c = puts_again c.in_ok-put_answer_text.ensures.puts c.put_str.ensures.puts
