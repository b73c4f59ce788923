use Rattle.std.proofs.Common.{◌≡◌, ◌∙◌, length, sym, ap}
use Rattle.httparse.specs.declared.spans.RequestSpans.{RequestSpans}
use Rattle.http_api.proofs.Messages.{unreadable-answer}
use Rattle.http_api.proofs.reader.parse.Goals as goal

pub returns-in_default-2-clause-none : goal.returns-in_default-2-clause-none
returns-in_default-2-clause-none c =
    unreadable-answer c.args.bytes.now (length c.deref_mut.result.now) c.parse_request.new.headers c.parse_request.result c.requires.fits
    (c.deref_mut.ensures.len ∙ c.requires.places) c.parse_request.ensures.found (λ parts is. absurd (cc))

pub returns-else-parts-bytes-clause-none : goal.returns-else-parts-bytes-clause-none
returns-else-parts-bytes-clause-none c =
    unreadable-answer c.args.bytes.now (length c.deref_mut.result.now) c.parse_request.new.headers c.parse_request.result c.requires.fits
    (c.deref_mut.ensures.len ∙ c.requires.places) c.parse_request.ensures.found
    (λ parts is len.
    let same : parts ≡ c.in-Ok-Complete.parts = cc in
    c.if-parts-bytes.false (sym (ap (λ (spans : RequestSpans). spans.len) same) ∙ len))
