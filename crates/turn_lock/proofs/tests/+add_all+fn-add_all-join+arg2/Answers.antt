use Rattle.std.proofs.lemmas.List.Elements.{AllZip-push}
use Rattle.turn_lock.proofs.tests.+add_all+fn-add_all-join+arg2.Goals as goal

pub returns-clause-same : goal.returns-clause-same
returns-clause-same g t c = rw (c.push_reserved.ensures.items, c.in-Some.ensures.items) (AllZip-push _ _ _ _ _ c.join-rest.ensures.first.0 c.join-rest.ensures.second)
