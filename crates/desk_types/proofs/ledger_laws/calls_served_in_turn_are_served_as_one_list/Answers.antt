use Rattle.desk_types.proofs.ServedInTurn.{AreServed-append, AreServed-none, AreServed-one, AreServed-stays}
use Rattle.desk_types.proofs.ledger_laws.calls_served_in_turn_are_served_as_one_list.Goals as goal

pub returns : goal.returns
returns c = record { none = AreServed-none; one = AreServed-one; joined = AreServed-append; stays = AreServed-stays }
