use Rattle.std.proofs.Common.{sym}
use Rattle.csv.specs.Records.{fields_of}
use Rattle.csv_import.proofs.FieldLemmas.{no_bid, no_campaign, no_row, row_told}
use Rattle.csv_import.proofs.row.row_of.Goals as goal

pub returns-in_default : goal.returns-in_default
returns-in_default c = sym (no_row (fields_of c.args.entry.now) c.in_default.ensures.none)

pub returns-in_default-number : goal.returns-in_default-number
returns-in_default-number c =
    no_campaign (fields_of c.args.entry.now) _ _ _ _ _ c.in-Some.ensures.fields c.in-Some.ensures.utf8 c.in_default-number.ensures

pub returns-in_default-number-2 : goal.returns-in_default-number-2
returns-in_default-number-2 c =
    no_bid (fields_of c.args.entry.now) _ _ _ _ _ _ c.in-Some.ensures.fields c.in-Some.ensures.utf8 c.in-Some-number.ensures c.in_default-number-2.ensures

pub returns : goal.returns
returns c =
    rw (c.in_ok-new.ensures, c.in_ok-new-2.ensures, c.in_ok-new-3.ensures) (
    row_told (fields_of c.args.entry.now) _ _ _ _ _ _ _ c.in-Some.ensures.fields c.in-Some.ensures.utf8 c.in-Some-number.ensures c.in-Some-number-2.ensures)
