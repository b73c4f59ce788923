use Rattle.std.proofs.Common.{◌∙◌}
use Rattle.desk_types.specs.declared.rows.BudgetSet.{BudgetSet}
use Rattle.accounts.proofs.LoadedRows.{budget_read}
use Rattle.accounts.proofs.book.Book.load_budgets.Goals as goal

pub add-requires-clause-owner : goal.add-requires-clause-owner
add-requires-clause-owner c =
    let none : BudgetSet = record { account = 0; campaign = 0; at = 0; amount = 0 } in
    (budget_read c.args.tables.now c.loop-row.self.tables c.as_slice-row-items.result.now c.loop-row.row-index none c.requires.sound c.as_slice-row-items.ensures c.loop-row.invariant c.loop-row-test.true).0

pub add-requires-clause-at_home : goal.add-requires-clause-at_home
add-requires-clause-at_home c =
    let none : BudgetSet = record { account = 0; campaign = 0; at = 0; amount = 0 } in
    (budget_read c.args.tables.now c.loop-row.self.tables c.as_slice-row-items.result.now c.loop-row.row-index none c.requires.sound c.as_slice-row-items.ensures c.loop-row.invariant c.loop-row-test.true).1

pub loop-row-preserved : goal.loop-row-preserved
loop-row-preserved c =
    let none : BudgetSet = record { account = 0; campaign = 0; at = 0; amount = 0 } in
    c.in_ok-add.ensures ∙ (budget_read c.args.tables.now c.loop-row.self.tables c.as_slice-row-items.result.now c.loop-row.row-index none c.requires.sound c.as_slice-row-items.ensures c.loop-row.invariant c.loop-row-test.true).2
