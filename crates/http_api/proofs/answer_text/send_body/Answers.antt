use Rattle.http_api.proofs.AnswerSending.{sends_put}
use Rattle.http_api.proofs.answer_text.send_body.Goals as goal

pub returns-clause-flushes : goal.returns-clause-flushes
returns-clause-flushes g c = sends_put _ _ _ _ _ _ _ _ c.requires c.in_ok-put_body.ensures.puts c.flush.ensures.flushes
