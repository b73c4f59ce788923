use Rattle.csv.specs.Reading.{default_config}
use Rattle.csv.specs.declared.parser.State.TheVariants as st
use Rattle.csv_import.proofs.LawLemmas.{same_records, same_told}
use Rattle.csv_import.proofs.laws.a_file_tells_one_thing.Goals as goal

pub returns-clause-records : goal.returns-clause-records
returns-clause-records c = λ text rows others. same_records default_config st.StartRecord text rows others

pub returns-clause-told : goal.returns-clause-told
returns-clause-told c = same_told
