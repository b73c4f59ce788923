use Rattle.desk_types.proofs.Soundness.{stable}
use Rattle.own_rows.proofs.Replied.{replied_own}
use Rattle.own_rows.proofs.advertisers_are_answered_by_own_rows.Goals as goal

pub returns : goal.returns
returns c = λ S account moment call sound by. replied_own S account moment call (stable S sound).in_order by
