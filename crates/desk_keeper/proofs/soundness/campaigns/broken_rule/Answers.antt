use Rattle.std.proofs.Common.{sym, ◌∙◌}
use Rattle.desk_types.specs.declared.rows.Campaign.{Campaign}
use Rattle.desk_keeper.proofs.LastRows.{owners_up_to}
use Rattle.desk_keeper.proofs.soundness.campaigns.broken_rule.Goals as goal

pub own_rows-requires-clause-behind : goal.own_rows-requires-clause-behind
own_rows-requires-clause-behind c =
    owners_up_to (λ (r : Campaign). r.account) (λ r. r.number) c.args.before.now c.args.row.now (sym c.is_in_order.ensures ∙ c.if-not-is_in_order.false)
