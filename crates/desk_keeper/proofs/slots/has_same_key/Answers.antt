use Rattle.std.proofs.Common.{not, sym, ap, ◌∙◌}
use Rattle.desk_types.proofs.Puts.{not-same}
use Rattle.desk_keeper.proofs.Anywhere.{neither_less}
use Rattle.desk_keeper.proofs.slots.has_same_key.Goals as goal

pub returns-then-not-is_before : goal.returns-then-not-is_before
returns-then-not-is_before g c =
    let key = g.R.Keyed.key in
    ap not c.is_before-then-not-is_before.ensures
    ∙ neither_less (key c.args.row.now) (key c.args.other.now) (sym c.is_before.ensures ∙ c.if-not-is_before.true)

pub returns-else-not-is_before : goal.returns-else-not-is_before
returns-else-not-is_before g c =
    let key = g.R.Keyed.key in
    let less = c.if-not-is_before.false in
    ap not less ∙ sym (not-same (key c.args.row.now) (key c.args.other.now) (sym c.is_before.ensures ∙ less))
