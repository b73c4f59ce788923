use Rattle.std.proofs.lemmas.List.Elements.{AllZip-push}
use Rattle.hall_tests.proofs.on_threads.+call_all_at_once+fn-call_all_at_once-join+arg2.Goals as goal

pub returns-clause-same : goal.returns-clause-same
returns-clause-same g t c = rw (c.push_reserved.ensures.items, c.in-Some.ensures.items) (AllZip-push _ _ _ _ _ c.join-rest.ensures.first.0 c.join-rest.ensures.second)
