use Rattle.desk_types.proofs.Editions.{equal_editions}
use Rattle.desk_types.proofs.ledger_laws.equal_editions_have_equal_catalogues.Goals as goal

pub returns : goal.returns
returns c = equal_editions
