use Rattle.desk_types.proofs.InOrder.{in_order-run}
use Rattle.desk_types.proofs.ledger_laws.rows_stay_in_order.Goals as goal

pub returns : goal.returns
returns c = in_order-run
