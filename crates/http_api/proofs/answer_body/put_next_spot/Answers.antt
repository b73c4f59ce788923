use Rattle.desk_io.proofs.Putting.{puts_again, puts_broken}
use Rattle.http_api.specs.AnswerText.{spot_body}
use Rattle.http_api.proofs.answer_body.put_next_spot.Goals as goal

pub returns-in_err-put_str-clause-puts : goal.returns-in_err-put_str-clause-puts
returns-in_err-put_str-clause-puts g c = puts_broken (spot_body c.args.spot.now) c.in_err-put_str.ensures.puts c.from_residual.ensures.0

pub returns-clause-puts : goal.returns-clause-puts
returns-clause-puts g c = puts_again c.in_ok-put_str.ensures.puts c.put_spot.ensures.puts
