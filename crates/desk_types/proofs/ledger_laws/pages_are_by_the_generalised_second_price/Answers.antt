use Rattle.desk_types.proofs.Histories.{page_law}
use Rattle.desk_types.proofs.Soundness.{stable}
use Rattle.desk_types.proofs.ledger_laws.pages_are_by_the_generalised_second_price.Goals as goal

pub returns : goal.returns
returns c = λ S entries moment text places spots h. page_law S entries moment text places spots (stable S h)
