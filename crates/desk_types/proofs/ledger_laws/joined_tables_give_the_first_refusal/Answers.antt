use Rattle.desk_types.proofs.Refusing.{first-append}
use Rattle.desk_types.proofs.ledger_laws.joined_tables_give_the_first_refusal.Goals as goal

pub returns : goal.returns
returns c = first-append
