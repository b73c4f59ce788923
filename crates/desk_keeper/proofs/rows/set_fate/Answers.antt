use Rattle.std.proofs.Common.{◌==◌, length, ap, ◌∙◌, arith}
use Rattle.std.specs.List.{position_or_len}
use Rattle.desk_keeper.proofs.Numbered.{sets_fate, sets_none}
use Rattle.desk_keeper.proofs.rows.set_fate.Goals as goal

pub returns-then-place-len-clause-set : goal.returns-then-place-len-clause-set
returns-then-place-len-clause-set c =
    let at = c.place_of_number-place.ensures ∙ ap (position_or_len (λ p. p.number == c.args.number)) c.deref.ensures.value in
    sets_fate c.args.rows.now.items c.args.number c.place_of_number-place.result c.args.fate c.index_mut.result.now at
    (omega (arith, c.if-place-len.true, c.len.ensures, c.deref.ensures.len, ap length c.deref.ensures.value)) c.index_mut.ensures.value

pub returns-else-place-len-clause-set : goal.returns-else-place-len-clause-set
returns-else-place-len-clause-set c =
    let at = c.place_of_number-place.ensures ∙ ap (position_or_len (λ p. p.number == c.args.number)) c.deref.ensures.value in
    sets_none c.args.rows.now.items c.args.number c.place_of_number-place.result c.args.fate at
    (omega (arith, c.if-place-len.false, c.len.ensures, c.deref.ensures.len, ap length c.deref.ensures.value))
