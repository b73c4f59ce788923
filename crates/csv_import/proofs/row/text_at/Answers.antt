use Rattle.csv.specs.Records.{fields_of}
use Rattle.csv_import.proofs.FieldLemmas.{field_no_text, field_none, field_text, if_none}
use Rattle.csv_import.proofs.row.text_at.Goals as goal

pub returns-in_err-get-clause-none : goal.returns-in_err-get-clause-none
returns-in_err-get-clause-none c =
    if_none c.from_residual.result _ (field_none (fields_of c.args.entry.now) c.args.place c.in_err-get.ensures.value)

pub returns-in-Ok-clause-text : goal.returns-in-Ok-clause-text
returns-in-Ok-clause-text c =
    field_text (fields_of c.args.entry.now) c.args.place _ _ c.in_ok-get.ensures.value c.in-Ok.ensures.cases.0 c.in-Ok.ensures.cases.1

pub returns-in-Err-clause-none : goal.returns-in-Err-clause-none
returns-in-Err-clause-none c _ =
    field_no_text (fields_of c.args.entry.now) c.args.place _ c.in_ok-get.ensures.value c.in-Err.ensures.cases.0
