use Rattle.std.proofs.Common.{◌≡◌, []}
use Rattle.http_api.proofs.AnswerSending.{sends_put}
use Rattle.http_api.proofs.answer_text.Answers.write.Goals as goal

pub returns-clause-written : goal.returns-clause-written
returns-clause-written g c =
    let none : c.self.inside.out ≡ [] = cc (c.self.view_is, c.count_body-body_length.ensures.same, c.requires) in
    sends_put _ _ _ _ _ _ _ _ none c.in_ok-put_answer.ensures.puts c.flush.ensures.flushes
