use Rattle.std.proofs.Common.{◌≡◌, ◌-◌, ◌∙◌, length, slice_index, sym, take_all, arith}
use Rattle.desk_io.proofs.Returns.{without_return-yes, without_return-no, without_return-nil, got_byte, got_none}
use Rattle.desk_io.proofs.line_reader.len_without_return.Goals as goal

pub returns-in-Some-clause-text : goal.returns-in-Some-clause-text
returns-in-Some-clause-text c =
    let bytes = c.args.bytes.now in
    let got = rw c.in-Some.is at c.last.ensures.value in
    sym (without_return-yes bytes (got_byte bytes (length bytes - 1) c.in-Some.last.now got ∙ c.if-last-eq13.true))

pub returns-in_default-clause-text : goal.returns-in_default-clause-text
returns-in_default-clause-text c =
    let bytes = c.args.bytes.now in
    let got = rw c.in-Some.is at c.last.ensures.value in
    let last : slice_index bytes (length bytes - 1) ≡ c.in-Some.last.now = got_byte bytes (length bytes - 1) c.in-Some.last.now got in
    take_all (length bytes) bytes (omega arith) ∙ sym (without_return-no bytes (λ is. c.if-last-eq13.false (sym last ∙ is)))

pub returns-in_default-2-clause-text : goal.returns-in_default-2-clause-text
returns-in_default-2-clause-text c =
    let bytes = c.args.bytes.now in
    let got = rw c.in_default.is at c.last.ensures.value in
    take_all (length bytes) bytes (omega arith) ∙ sym (without_return-nil bytes (omega (arith, got_none bytes (length bytes - 1) got)))
