-- A text has one list of records.
use Rattle.std.proofs.Common.{◌≡◌, ℕ, List, [], ◌∷◌, None, refl, sym, ap, ◌∙◌}
use Rattle.std.specs.Prelude.{Result}
use Rattle.csv.specs.Machine.{next_record}
use Rattle.csv.specs.Reading.{AreRecords, Reached, default_config, strip_bom}
use Rattle.csv.specs.declared.parser.Config.{Config}
use Rattle.csv.specs.declared.parser.State.{State}
use Rattle.csv.specs.declared.parser.State.TheVariants as st
use Rattle.desk_types.specs.declared.call.ImportRow.{ImportRow}
use Rattle.csv_import.specs.declared.fault.CsvFault.{CsvFault}
use Rattle.csv_import.specs.ImportFile.{Tells, rows_of}

pub same_records : (cfg : Config) (s : State) (xs : List ℕ) (rows others : List (List (List ℕ))) → AreRecords cfg s xs rows → AreRecords cfg s xs others → rows ≡ others
unfolding Reached
same_records cfg s xs [] [] one two = refl
same_records cfg s xs [] (other ∷ others) one two =
    let none : next_record cfg s [] [] xs ≡ None = rw (one.2.0, one.2.1) one.3 in
    absurd (cc)
same_records cfg s xs (row ∷ rows) [] one two =
    let none : next_record cfg s [] [] xs ≡ None = rw (two.2.0, two.2.1) two.3 in
    absurd (cc)
same_records cfg s xs (row ∷ rows) (other ∷ others) one two =
    let (s2, ys, (p, is, head, rest), none) = one in
    let (t2, zs, (q, is_too, head_too, rest_too), none_too) = two in
    let same : q ≡ p = cc in
    let first : row ≡ other = cc in
    let more : rows ≡ others = same_records cfg p.1 p.2 rows others (s2, ys, rest, none) (t2, zs, rw same at rest_too, none_too) in
    cc

pub same_told : (bytes : List ℕ) (told other : Result (List ImportRow) CsvFault) → Tells bytes told → Tells bytes other → told ≡ other
same_told bytes told other one two =
    sym one.2 ∙ ap rows_of (same_records default_config st.StartRecord (strip_bom bytes) one.0 two.0 one.1 two.1) ∙ two.2
