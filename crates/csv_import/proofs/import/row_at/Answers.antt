use Rattle.std.proofs.Common.{◌≡◌, ◌∙◌, true, false, sym, rules, tests}
use Rattle.std.specs.Prelude.{nat_lt}
use Rattle.csv.specs.Records.{fields_of}
use Rattle.csv_import.specs.declared.limits.TheConstants.{FILE_ROWS_MAX}
use Rattle.csv_import.proofs.ImportLemmas.{bad_row, too_many}
use Rattle.csv_import.proofs.import.row_at.Goals as goal

pub returns-then-place-gt-FILE_ROWS_MAX-clause-fault : goal.returns-then-place-gt-FILE_ROWS_MAX-clause-fault
returns-then-place-gt-FILE_ROWS_MAX-clause-fault c _ more =
    let past : nat_lt FILE_ROWS_MAX c.args.place ≡ true = search (rules, tests) in
    too_many c.args.place (fields_of c.args.entry.now) more past

pub returns-in-None-clause-fault : goal.returns-in-None-clause-fault
returns-in-None-clause-fault c _ more =
    let within : nat_lt FILE_ROWS_MAX c.args.place ≡ false = search (rules, tests) in
    bad_row c.args.place (fields_of c.args.entry.now) more within (sym (sym c.in-None.is ∙ c.in_ok-row.ensures))
