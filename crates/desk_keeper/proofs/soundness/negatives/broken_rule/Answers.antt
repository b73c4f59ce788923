use Rattle.std.proofs.Common.{sym, ◌∙◌}
use Rattle.desk_types.specs.declared.rows.Negative.{Negative}
use Rattle.desk_keeper.proofs.LastRows.{owners_up_to}
use Rattle.desk_keeper.proofs.soundness.negatives.broken_rule.Goals as goal

pub own_rows-requires-clause-behind : goal.own_rows-requires-clause-behind
own_rows-requires-clause-behind c =
    owners_up_to (λ (r : Negative). r.account) (λ r. r.number) c.args.before.now c.args.row.now (sym c.is_in_order.ensures ∙ c.if-not-is_in_order.false)

pub is_repeated-requires-clause-behind : goal.is_repeated-requires-clause-behind
is_repeated-requires-clause-behind c =
    owners_up_to (λ (r : Negative). r.account) (λ r. r.number) c.args.before.now c.args.row.now (sym c.is_in_order.ensures ∙ c.if-not-is_in_order.false)
