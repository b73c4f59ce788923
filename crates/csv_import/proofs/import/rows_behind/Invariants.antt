use Rattle.std.proofs.Common.{drop}
use Rattle.csv_import.proofs.ImportLemmas.{IsReadTo}
use Rattle.csv_import.proofs.import.rows_behind.Given as goal

abbrev pub invariant-loop-entry : goal.invariant-loop-entry
invariant-loop-entry l = IsReadTo l.records l.rows l.place (drop l.entry-index l.records)
