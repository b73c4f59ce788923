use Rattle.std.proofs.lemmas.List.{take_rest}
use Rattle.http_api.proofs.FieldsTrimmed.{trimmed}
use Rattle.http_api.proofs.close.trimmed.Goals as goal

pub returns : goal.returns
returns c =
    trimmed c.args.bytes.now _ c.spaces_in_front.result c.spaces_at_end.result (take_rest c.args.bytes.now c.spaces_in_front.result) c.spaces_in_front.ensures.count c.spaces_at_end.ensures.count c.spaces_at_end.ensures.fits
