use Rattle.http_api.proofs.VerdictLemmas.{one_verdict}
use Rattle.http_api.proofs.laws.a_message_has_one_verdict.Goals as goal

pub returns : goal.returns
returns c = one_verdict c.a_file_tells_one_thing.ensures.told
