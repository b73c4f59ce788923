use Rattle.std.proofs.Common.{arith}
use Rattle.desk_types.specs.declared.rows.BudgetSet.{BudgetSet}
use Rattle.desk_types.proofs.Openings.{greatest-then}
use Rattle.desk_types.proofs.tables.latest_setting.Goals as goal

pub loop-row-preserved : goal.loop-row-preserved
loop-row-preserved c =
    let none : BudgetSet = record { account = 0; campaign = 0; at = 0; amount = 0 } in
    omega (arith, c.max-latest.ensures, c.loop-row.invariant, greatest-then (λ (b : BudgetSet). b.at) c.args.budgets.now c.loop-row.row-index none c.loop-row-test.true)
