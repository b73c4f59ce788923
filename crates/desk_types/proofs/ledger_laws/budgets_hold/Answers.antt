use Rattle.desk_types.proofs.Histories.{budgets_held}
use Rattle.desk_types.proofs.Soundness.{stable}
use Rattle.desk_types.proofs.ledger_laws.budgets_hold.Goals as goal

pub returns : goal.returns
returns c = λ S entries moment h. budgets_held S entries moment (stable S h)
