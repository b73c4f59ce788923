use Rattle.desk_types.proofs.Switching.{campaign_back, line_back, suspended_back}
use Rattle.desk_types.proofs.ledger_laws.switches_can_be_taken_back.Goals as goal

pub returns : goal.returns
returns c = record { accounts = suspended_back; campaigns = campaign_back; lines = line_back }
