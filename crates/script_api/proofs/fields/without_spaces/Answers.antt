use Rattle.std.proofs.Common.{◌∙◌, sym}
use Rattle.script_api.proofs.SpaceLemmas.{unspaced-is, behind_spaces}
use Rattle.script_api.proofs.fields.without_spaces.Goals as goal

pub range_from-requires : goal.range_from-requires
range_from-requires c = λ _.
    let found = rw c.as_bytes.ensures.value at c.spaces_in_front.ensures in
    behind_spaces c.args.text.now c.spaces_in_front.result c.utf8.text found.within found.spaces

pub returns : goal.returns
returns c =
    let found = rw c.as_bytes.ensures.value at c.spaces_in_front.ensures in
    c.range_from.ensures.value ∙ sym (unspaced-is c.args.text.now c.spaces_in_front.result found.within found.spaces found.other)
