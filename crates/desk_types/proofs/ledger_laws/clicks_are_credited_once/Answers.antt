use Rattle.desk_types.proofs.Credits.{credited_again, credited_later}
use Rattle.desk_types.proofs.Soundness.{stable}
use Rattle.desk_types.proofs.ledger_laws.clicks_are_credited_once.Goals as goal

pub returns : goal.returns
returns c = record {
  repeated = credited_again;
  later = λ S between first second placement price h. credited_later S between first second placement price (stable S h);
}
