use Rattle.http_api.proofs.BodyLemmas.{json_some, json_none}
use Rattle.std.proofs.lemmas.Bool.{iff_false}
use Rattle.http_api.proofs.body.Body.read.Goals as goal

pub returns-in-Ok : goal.returns-in-Ok
returns-in-Ok c = json_some c.args.bytes.now _ c.in-Ok.ensures.ok.0 c.in-Ok.ensures.ok.1

pub returns-in-Err-2 : goal.returns-in-Err-2
returns-in-Err-2 c = json_none c.args.bytes.now (c.in-Err.ensures.err (iff_false c.is_memory.ensures c.if-is_memory.false))
