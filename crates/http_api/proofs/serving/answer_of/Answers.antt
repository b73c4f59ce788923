use Rattle.std.proofs.Common.{Ok, refl, ap, ◌∙◌}
use Rattle.http_api.specs.SessionRun.{ByCall, ByJudgement}
use Rattle.http_api.proofs.serving.answer_of.Goals as goal

pub returns-in-Ok-Asks-clause-answered : goal.returns-in-Ok-Asks-clause-answered
returns-in-Ok-Asks-clause-answered g c = record {
  answered = ByCall c.now.result c.in-Ok-Asks.call c.call.result;
  is = refl;
  is_for = c.in-Ok-Asks.is ∙ ap Ok c.in-Ok-Asks.field-0-is;
  called = (c.call.ensures.serves, c.now.ensures.moment, c.now.ensures.left);
}

pub returns-in-Ok-Fails-clause-answered : goal.returns-in-Ok-Fails-clause-answered
returns-in-Ok-Fails-clause-answered g c = record {
  answered = ByJudgement c.in-Ok-Fails.judgement;
  is = refl;
  is_for = c.in-Ok-Fails.is ∙ ap Ok c.in-Ok-Fails.field-0-is;
  called = refl;
}
