use Rattle.desk_types.proofs.Clicks.{later, repeated, too_late}
use Rattle.desk_types.proofs.Soundness.{stable}
use Rattle.desk_types.proofs.ledger_laws.clicks_settle_once.Goals as goal

pub returns : goal.returns
returns c = record {
  repeated = repeated;
  later = λ S between first second placement link h. later S between first second placement link (stable S h);
  too_late = too_late;
}
