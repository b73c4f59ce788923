use Rattle.std.proofs.Common.{sym, ◌∙◌, arith}
use Rattle.std.proofs.lemmas.Bool.Decides.{nat_tests}
use Rattle.desk_io.proofs.NumberLemmas.{HasRead-more, none_behind, number_read, number_outside, none_empty, none_zero}
use Rattle.desk_io.proofs.number.number_in.Goals as goal

pub returns-then-is_empty-clause-number : goal.returns-then-is_empty-clause-number
returns-then-is_empty-clause-number c = sym (none_empty _ _ c.args.text.now (grind (arith, nat_tests)))

pub returns-then-text-gt1-clause-number : goal.returns-then-text-gt1-clause-number
returns-then-text-gt1-clause-number c = sym (none_zero _ _ c.args.text.now c.if-text-eq48.true c.if-text-gt1.true)

pub returns-in_err-number-clause-number : goal.returns-in_err-number-clause-number
returns-in_err-number-clause-number c =
    c.from_residual.ensures ∙ sym (none_behind c.args.text.now c.loop-byte.byte-index c.loop-byte.number c.loop-byte-test.true c.loop-byte.invariant c.args.least c.args.most (omega (arith, c.ranges.most.fits)) c.in_err-number.ensures.none)

pub loop-byte-preserved : goal.loop-byte-preserved
loop-byte-preserved c =
    HasRead-more c.args.text.now c.loop-byte.byte-index c.loop-byte.number c.loop-byte-test.true c.loop-byte.invariant c.in_ok-number.number c.in_ok-number.ensures.some.0 c.in_ok-number.ensures.some.1

pub returns-then-number-most-clause-number : goal.returns-then-number-most-clause-number
returns-then-number-most-clause-number c =
    sym (number_read c.args.text.now c.loop-byte.byte-index c.loop-byte.number c.loop-byte.invariant c.loop-byte-test.false (grind (arith, nat_tests)) c.else-text-eq48.either c.args.least c.args.most c.if-least-number.true c.if-number-most.true)

pub returns-else-least-number-clause-number : goal.returns-else-least-number-clause-number
returns-else-least-number-clause-number c =
    sym (number_outside c.args.text.now c.loop-byte.byte-index c.loop-byte.number c.loop-byte.invariant c.loop-byte-test.false (grind (arith, nat_tests)) c.else-text-eq48.either c.args.least c.args.most c.else-least-number.either)
