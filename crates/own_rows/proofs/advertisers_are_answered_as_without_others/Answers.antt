use Rattle.desk_types.proofs.Soundness.{stable}
use Rattle.own_rows.proofs.Others.{without}
use Rattle.own_rows.proofs.advertisers_are_answered_as_without_others.Goals as goal

pub returns : goal.returns
returns c = λ S before between account moment call sound by alone. without S before between account moment call (stable S sound) by alone
