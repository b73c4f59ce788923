use Rattle.std.proofs.Common.{◌≡◌, ◌<◌, length, arith}
use Rattle.std.proofs.lemmas.Bool.Decides.{nat_tests}
use Rattle.script_api.specs.LineFields.{unspaced}
use Rattle.script_api.proofs.FieldLemmas.{cut_some, cut_none, fields-no_text, behind_space}
use Rattle.script_api.proofs.fields.first_field.Goals as goal

pub returns-then-is_empty-clause-fields : goal.returns-then-is_empty-clause-fields
returns-then-is_empty-clause-fields c =
    let none : length (unspaced c.args.text.now) ≡ 0 = rw (← c.without_spaces-text.ensures) (grind (arith, nat_tests)) in
    fields-no_text c.args.text.now none

pub range_from-requires : goal.range_from-requires
range_from-requires c = λ _. behind_space c.without_spaces-text.result.now c.in-Some.end c.without_spaces-text.utf8 (rw c.as_bytes.ensures.value at c.in-Some.ensures)

pub returns-in-Some-clause-fields : goal.returns-in-Some-clause-fields
returns-in-Some-clause-fields c =
    (cut_some c.args.text.now c.without_spaces-text.result.now c.without_spaces-text.ensures c.range.result.now c.range_from.result.now c.in-Some.end
    (rw c.as_bytes.ensures.value at c.in-Some.ensures) c.range.ensures.value c.range_from.ensures.value).0

pub returns-in-Some-clause-behind : goal.returns-in-Some-clause-behind
returns-in-Some-clause-behind c =
    (cut_some c.args.text.now c.without_spaces-text.result.now c.without_spaces-text.ensures c.range.result.now c.range_from.result.now c.in-Some.end
    (rw c.as_bytes.ensures.value at c.in-Some.ensures) c.range.ensures.value c.range_from.ensures.value).1

pub returns-in-None-clause-fields : goal.returns-in-None-clause-fields
returns-in-None-clause-fields c =
    let long : 0 < length c.without_spaces-text.result.now = grind (arith, nat_tests) in
    (cut_none c.args.text.now c.without_spaces-text.result.now c.without_spaces-text.ensures (rw c.as_bytes.ensures.value at c.in-None.ensures) long).0

pub returns-in-None-clause-behind : goal.returns-in-None-clause-behind
returns-in-None-clause-behind c =
    let long : 0 < length c.without_spaces-text.result.now = grind (arith, nat_tests) in
    (cut_none c.args.text.now c.without_spaces-text.result.now c.without_spaces-text.ensures (rw c.as_bytes.ensures.value at c.in-None.ensures) long).1
