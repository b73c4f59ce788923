use Rattle.http_api.proofs.FieldsLengths.{HasLength-more}
use Rattle.http_api.proofs.length.length_in.Goals as goal

pub loop-digit-preserved : goal.loop-digit-preserved
loop-digit-preserved c =
    HasLength-more c.args.digits.now c.loop-digit.digit-index c.loop-digit.size c.loop-digit-test.true c.loop-digit.invariant c.in_ok-size.size c.in_ok-size.ensures.some.0 c.in_ok-size.ensures.some.1
