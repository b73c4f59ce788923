use Rattle.http_api.proofs.FieldsLengths.{HasLength}
use Rattle.http_api.proofs.length.length_in.Given as goal

-- the digits so far are read
abbrev pub invariant-loop-digit : goal.invariant-loop-digit
invariant-loop-digit l = HasLength l.digits l.digit-index l.size
