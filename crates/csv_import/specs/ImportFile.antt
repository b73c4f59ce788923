-- What a file of an import tells.
use Rattle.std.specs.Prelude.{◌≡◌, ℕ, ◌+◌, Bool, true, false, ◌&&◌, bytes_eq, nat_lt, if◌then◌else◌, List, [], ◌∷◌, codes, Option, Some, None, Result, Ok, Err}
use Rattle.std.specs.List.{list_all}
use Rattle.std.specs.Str.{is_utf8}
use Rattle.csv.specs.Reading.{AreRecords, default_config, strip_bom}
use Rattle.csv.specs.declared.parser.State.TheVariants as st
use Rattle.desk_io.specs.Number.{number}
use Rattle.desk_types.specs.declared.call.ImportRow.{ImportRow}
use Rattle.csv_import.specs.declared.fault.CsvFault.{CsvFault}
use Rattle.csv_import.specs.declared.fault.CsvFault.TheVariants.{Heading, Row, TooMany}
use Rattle.csv_import.specs.declared.limits.TheConstants.{FILE_ROWS_MAX}

-- the heading
abbrev pub heading : List (List ℕ)
heading = codes "campaign" ∷ codes "bid" ∷ codes "pattern" ∷ codes "headline" ∷ codes "link" ∷ []

-- whether records have the same fields
abbrev pub fields_eq : List (List ℕ) → List (List ℕ) → Bool
fields_eq [] [] = true
fields_eq (first ∷ more) (other ∷ others) = bytes_eq first other && fields_eq more others
fields_eq [] (other ∷ others) = false
fields_eq (first ∷ more) [] = false

-- the row of five fields, whose campaign and bid are numbers
abbrev pub row_from : Option ℕ → Option ℕ → List ℕ → List ℕ → List ℕ → Option ImportRow
row_from (Some campaign) (Some bid) pattern headline link =
    Some (record { campaign = campaign; bid = bid; pattern = pattern; headline = headline; link = link })
row_from None bid pattern headline link = None
row_from (Some campaign) None pattern headline link = None

-- the row of a record: five fields of UTF-8
abbrev pub row_of_five : List (List ℕ) → Option ImportRow
row_of_five (campaign ∷ bid ∷ pattern ∷ headline ∷ link ∷ []) =
    row_from (number campaign) (number bid) pattern headline link
row_of_five _ = None

unfoldable pub row_of : List (List ℕ) → Option ImportRow
row_of fields = if list_all is_utf8 fields then row_of_five fields else None

-- a row in front of others
abbrev pub in_front : ImportRow → Result (List ImportRow) CsvFault → Result (List ImportRow) CsvFault
in_front row (Ok rows) = Ok (row ∷ rows)
in_front row (Err fault) = Err fault

abbrev pub with_row : ℕ → Option ImportRow → Result (List ImportRow) CsvFault → Result (List ImportRow) CsvFault
with_row place None more = Err (Row place)
with_row place (Some row) more = in_front row more

-- the rows of records from a place on: the first that is none is told, and one past the last allowed before it is looked at
unfoldable pub rows_from : ℕ → List (List (List ℕ)) → Result (List ImportRow) CsvFault
rows_from place [] = Ok []
rows_from place (fields ∷ more) =
    if nat_lt FILE_ROWS_MAX place then Err TooMany else with_row place (row_of fields) (rows_from (place + 1) more)

-- what stands behind the heading, where it is the heading
abbrev pub behind_heading : List (List ℕ) → Result (List ImportRow) CsvFault → Result (List ImportRow) CsvFault
behind_heading first rows = if fields_eq first heading then rows else Err Heading

-- what records tell
unfoldable pub rows_of : List (List (List ℕ)) → Result (List ImportRow) CsvFault
rows_of [] = Err Heading
rows_of (first ∷ more) = behind_heading first (rows_from 1 more)

-- what a file tells: its records are those of `csv` in its default form, behind a leading byte order mark
abbrev pub Tells : List ℕ → Result (List ImportRow) CsvFault → Type 0
Tells bytes told =
    (records : List (List (List ℕ)))
    × AreRecords default_config st.StartRecord (strip_bom bytes) records × (rows_of records ≡ told)
