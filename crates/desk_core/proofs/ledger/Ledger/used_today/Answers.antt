use Rattle.std.proofs.Common.{arith}
use Rattle.desk_types.proofs.Lawful.{within_used}
use Rattle.desk_types.proofs.ReportBounds.{budget_bound}
use Rattle.desk_types.proofs.Soundness.{stable}
use Rattle.desk_core.proofs.Sounds.{within_budgets}
use Rattle.desk_core.proofs.ledger.Ledger.used_today.Goals as goal

pub overflow_cast-result : goal.overflow_cast-result
overflow_cast-result c =
    let S = c.args.self.now.state in
    let day = c.day_of-day.result in
    let within = within_used S (within_budgets S c.requires.sound) c.args.account c.args.campaign day in
    omega (arith, c.used.ensures.sum, within, budget_bound S c.args.account c.args.campaign day (stable S c.requires.sound))
