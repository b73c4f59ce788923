use Rattle.std.proofs.Common.{◌∙◌, ap}
use Rattle.http_api.specs.HeadAt.{head_at}
use Rattle.http_api.proofs.Messages.{faulty-told}
use Rattle.http_api.proofs.reader.read_parts.Goals as goal

pub returns-in-None-clause-reads : goal.returns-in-None-clause-reads
returns-in-None-clause-reads c =
    let bytes = c.args.bytes.now in
    let parts = c.in-Some.parts in
    faulty-told bytes c.parse.new.fields.items parts c.new-head.result c.asks_for_no_body.result c.requires.head c.in-Some.ensures.some
    (c.new-head.ensures ∙ ap (head_at bytes parts) c.as_slice.ensures.value) c.in-None.ensures c.asks_for_no_body.ensures
