use Rattle.std.proofs.Common.{◌≡◌, false, true, rules, tests}
use Rattle.csv.specs.Records.{fields_of}
use Rattle.csv_import.specs.ImportFile.{fields_eq, heading}
use Rattle.csv_import.proofs.ImportLemmas.{behind_first, none_there, other_first}
use Rattle.csv_import.proofs.import.rows_told.Goals as goal

pub returns-in_default-clause-fault : goal.returns-in_default-clause-fault
returns-in_default-clause-fault c _ = none_there c.args.records.now c.in_default.ensures.cases

pub returns-then-not-is_heading-clause-fault : goal.returns-then-not-is_heading-clause-fault
returns-then-not-is_heading-clause-fault c _ =
    let other : fields_eq (fields_of c.in-Some.first.now) heading ≡ false = search (rules, tests) in
    other_first c.args.records.now c.in-Some.first.now c.in-Some.more.now c.in-Some.ensures.cases.0 other

pub returns-clause-rows : goal.returns-clause-rows
returns-clause-rows c =
    let is : fields_eq (fields_of c.in-Some.first.now) heading ≡ true = search (rules, tests) in
    rw (behind_first c.args.records.now c.in-Some.first.now c.in-Some.more.now c.in-Some.ensures.cases.0 is) c.rows_behind.ensures.rows

pub returns-clause-fault : goal.returns-clause-fault
returns-clause-fault c =
    let is : fields_eq (fields_of c.in-Some.first.now) heading ≡ true = search (rules, tests) in
    rw (behind_first c.args.records.now c.in-Some.first.now c.in-Some.more.now c.in-Some.ensures.cases.0 is) c.rows_behind.ensures.fault
