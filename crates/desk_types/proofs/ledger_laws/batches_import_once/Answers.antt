use Rattle.desk_types.proofs.Repeating.{imported_again, imported_later}
use Rattle.desk_types.proofs.Soundness.{stable}
use Rattle.desk_types.proofs.ledger_laws.batches_import_once.Goals as goal

pub returns : goal.returns
returns c = record {
  repeated = imported_again;
  later = λ S between first second account key batch from count rows others h.
      imported_later S between first second account key batch from count rows others (stable S h);
}
