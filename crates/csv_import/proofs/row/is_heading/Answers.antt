use Rattle.csv.specs.Records.{fields_of}
use Rattle.csv_import.proofs.FieldLemmas.{no_heading}
use Rattle.csv_import.proofs.row.is_heading.Goals as goal

pub returns-in_default : goal.returns-in_default
returns-in_default c = no_heading (fields_of c.args.entry.now) c.in_default.ensures.none
