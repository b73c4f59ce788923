use Rattle.accounts.proofs.AtHomes.{budget_can_be_put, put_planned}
use Rattle.accounts.proofs.States.{all_planned, all_stop, budget_planned, budget_stops, edit_else}
use Rattle.accounts.proofs.book.Book.judge.Goals as goal

pub plan-requires : goal.plan-requires
plan-requires c = record { rows_alone = edit_else c.args.call.now c.requires.edit c.in_default.not-SetBudget }

pub returns-in-SetBudget-clause-planned : goal.returns-in-SetBudget-clause-planned
returns-in-SetBudget-clause-planned c =
    rw c.in-SetBudget.is (budget_planned c.args.self.now.tables c.args.used c.in-SetBudget.key _ c.plan_budget.result c.plan_budget.ensures.changed c.plan_budget.ensures.replied c.plan_budget.ensures.passed)

pub returns-in-SetBudget-clause-can_be_put : goal.returns-in-SetBudget-clause-can_be_put
returns-in-SetBudget-clause-can_be_put c =
    budget_can_be_put c.args.self.now.tables c.args.used c.in-SetBudget.key _ c.plan_budget.result c.plan_budget.ensures.passed c.plan_budget.ensures.changed

pub returns-in-SetBudget-clause-stopped : goal.returns-in-SetBudget-clause-stopped
returns-in-SetBudget-clause-stopped c =
    rw c.in-SetBudget.is (budget_stops c.args.self.now.tables c.args.used c.in-SetBudget.key _ c.plan_budget.result c.plan_budget.ensures.stopped)

pub returns-in_default-clause-planned : goal.returns-in_default-clause-planned
returns-in_default-clause-planned c =
    all_planned c.args.self.now.tables c.args.moment c.args.used c.args.call.now c.plan.result (edit_else c.args.call.now c.requires.edit c.in_default.not-SetBudget) c.plan.ensures.planned

pub returns-in_default-clause-can_be_put : goal.returns-in_default-clause-can_be_put
returns-in_default-clause-can_be_put c =
    put_planned c.args.self.now.tables c.args.moment c.args.call.now c.plan.result (edit_else c.args.call.now c.requires.edit c.in_default.not-SetBudget) c.plan.ensures.planned

pub returns-in_default-clause-stopped : goal.returns-in_default-clause-stopped
returns-in_default-clause-stopped c =
    all_stop c.args.self.now.tables c.args.moment c.args.used c.args.call.now c.plan.result (edit_else c.args.call.now c.requires.edit c.in_default.not-SetBudget) c.plan.ensures.stopped
