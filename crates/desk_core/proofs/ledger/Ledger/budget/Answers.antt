use Rattle.std.proofs.Common.{ap, ◌∙◌}
use Rattle.desk_types.specs.Money.{budget}
use Rattle.desk_core.specs.LedgerValue.{LedgerValue}
use Rattle.desk_core.specs.contracts.ledger.Ledger.{the_view}
use Rattle.desk_core.proofs.Owned.{budget_own}
use Rattle.desk_core.proofs.ledger.Ledger.budget.Goals as goal

pub returns : goal.returns
returns c =
    let of = c.args.of in
    c.latest_amount.ensures ∙ budget_own (the_view c.self.inside).state of.account of.campaign of.day c.budgets.result.now c.budgets.ensures
    ∙ ap (λ (V : LedgerValue). budget V.state of.account of.campaign of.day) c.self.view_is
