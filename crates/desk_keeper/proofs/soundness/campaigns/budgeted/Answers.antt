use Rattle.std.proofs.Common.{◌==◌, ◌&&◌, ◌||◌, get_or, sym, ap, ◌∙◌}
use Rattle.desk_types.specs.declared.rows.BudgetSet.{BudgetSet}
use Rattle.desk_keeper.proofs.LastRows.{any_more, either_way}
use Rattle.desk_keeper.proofs.soundness.campaigns.budgeted.Goals as goal

abbrev none : BudgetSet
none = record { account = 0; campaign = 0; at = 0; amount = 0 }

pub loop-row-preserved : goal.loop-row-preserved
loop-row-preserved c account campaign =
    let row = get_or c.args.budgets.now c.loop-row.row-index none in
    let updates = c.in_ok-insert.ensures.updates in
    let test = λ (b : BudgetSet). b.account == account && b.campaign == campaign in
    updates.0 (account, campaign) ∙ either_way (test row) _ ∙ ap (λ b. b || test row) (c.loop-row.invariant account campaign) ∙ sym (any_more test c.args.budgets.now c.loop-row.row-index none c.loop-row-test.true)
