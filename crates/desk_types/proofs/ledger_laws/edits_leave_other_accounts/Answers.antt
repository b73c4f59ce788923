use Rattle.desk_types.proofs.OwnRows.{step_leaves}
use Rattle.desk_types.proofs.ledger_laws.edits_leave_other_accounts.Goals as goal

pub returns : goal.returns
returns c = step_leaves
