-- The rows of records, one after another.
use Rattle.std.proofs.Common.{◌≡◌, ℕ, ◌+◌, ◌<◌, ◌≤◌, true, false, List, [], ◌∷◌, ◌++◌, length, get_or, drop, map, Some, None, Ok, Err, refl, sym, ap, ◌∙◌, append_assoc, append-nil, arith, rules, tests}
use Rattle.std.specs.Prelude.{Result, nat_lt}
use Rattle.std.proofs.lemmas.List.{drop_all, drop_more}
use Rattle.desk_types.specs.declared.call.ImportRow.{ImportRow}
use Rattle.csv_import.specs.declared.fault.CsvFault.{CsvFault}
use Rattle.csv_import.specs.declared.fault.CsvFault.TheVariants.{Heading, TooMany, Row}
use Rattle.csv_import.specs.declared.limits.TheConstants.{FILE_ROWS_MAX}
use Rattle.csv_import.specs.ImportFile.{fields_eq, heading, in_front, row_of, rows_from, rows_of}
use Rattle.csv.specs.Records.{Row as Entry, fields_of}

-- what follows rows
abbrev pub behind : List ImportRow → Result (List ImportRow) CsvFault → Result (List ImportRow) CsvFault
behind rows (Ok more) = Ok (rows ++ more)
behind rows (Err fault) = Err fault

-- the entries from a place on, behind the rows of those before it, are all of them
pub record IsReadTo (entries : List Entry) (rows : List ImportRow) (place : ℕ) (left : List Entry) : Type 0 where
  pub told : rows_from 1 (map fields_of entries) ≡ behind rows (rows_from place (map fields_of left))

behind_none : (told : Result (List ImportRow) CsvFault) → told ≡ behind [] told
behind_none (Ok rows) = refl
behind_none (Err fault) = refl

behind_one : (rows : List ImportRow) (row : ImportRow) (told : Result (List ImportRow) CsvFault) → behind rows (in_front row told) ≡ behind (rows ++ row ∷ []) told
behind_one rows row (Ok more) = ap Ok (sym (append_assoc rows (row ∷ []) more))
behind_one rows row (Err fault) = refl

pub too_many : (place : ℕ) (fields : List (List ℕ)) (more : List (List (List ℕ))) → nat_lt FILE_ROWS_MAX place ≡ true → rows_from place (fields ∷ more) ≡ Err TooMany
unfolding rows_from
too_many place fields more past = rw past refl

pub bad_row : (place : ℕ) (fields : List (List ℕ)) (more : List (List (List ℕ))) → nat_lt FILE_ROWS_MAX place ≡ false → row_of fields ≡ None → rows_from place (fields ∷ more) ≡ Err (Row place)
unfolding rows_from
bad_row place fields more within none = rw (within, none) refl

one_row : (place : ℕ) (fields : List (List ℕ)) (more : List (List (List ℕ))) (row : ImportRow) → nat_lt FILE_ROWS_MAX place ≡ false → row_of fields ≡ Some row → rows_from place (fields ∷ more) ≡ in_front row (rows_from (place + 1) more)
unfolding rows_from
one_row place fields more row within is = rw (within, is) refl

pub read_none : (entries : List Entry) → IsReadTo entries [] 1 entries
read_none entries = record { told = behind_none (rows_from 1 (map fields_of entries)) }

pub read_one : (entries : List Entry) (rows : List ImportRow) (place : ℕ) (entry : Entry) (left : List Entry) (row : ImportRow) → IsReadTo entries rows place (entry ∷ left) → nat_lt FILE_ROWS_MAX place ≡ false → row_of (fields_of entry) ≡ Some row
    → IsReadTo entries (rows ++ row ∷ []) (place + 1) left
read_one entries rows place entry left row before within is = record {
  told = before.told ∙ ap (behind rows) (one_row place (fields_of entry) (map fields_of left) row within is) ∙ behind_one rows row (rows_from (place + 1) (map fields_of left));
}

at_end : (rows : List ImportRow) (place : ℕ) → behind rows (rows_from place []) ≡ Ok rows
unfolding rows_from
at_end rows place = ap Ok (append-nil rows)

pub read_all : (entries : List Entry) (rows : List ImportRow) (place i : ℕ) → length entries ≤ i → IsReadTo entries rows place (drop i entries) → rows_from 1 (map fields_of entries) ≡ Ok rows
read_all entries rows place i past before = rw (drop_all i entries past) at before.told ∙ at_end rows place

pub read_stopped : (entries : List Entry) (rows : List ImportRow) (place : ℕ) (entry : Entry) (left : List Entry) (fault : CsvFault) → IsReadTo entries rows place (entry ∷ left) → rows_from place (fields_of entry ∷ map fields_of left) ≡ Err fault
    → rows_from 1 (map fields_of entries) ≡ Err fault
read_stopped entries rows place entry left fault before is = before.told ∙ ap (behind rows) is

-- what is left is the entry at an index and those behind it
pub left_from : (entries : List Entry) (i : ℕ) (entry : Entry) → i < length entries → entry ≡ get_or entries i entry → drop i entries ≡ entry ∷ drop (i + 1) entries
left_from entries i entry inside is = drop_more entries i entry inside ∙ ap (λ (e : Entry). e ∷ drop (i + 1) entries) (sym is)

pub none_there : (entries : List Entry) → length entries ≡ 0 → rows_of (map fields_of entries) ≡ Err Heading
unfolding rows_of
none_there [] n = refl
none_there (entry ∷ more) n = absurd (omega arith)

pub other_first : (entries : List Entry) (first : Entry) (more : List Entry) → entries ≡ first ∷ more → fields_eq (fields_of first) heading ≡ false → rows_of (map fields_of entries) ≡ Err Heading
unfolding rows_of
other_first entries first more are other = rw are (rw other refl)

pub behind_first : (entries : List Entry) (first : Entry) (more : List Entry) → entries ≡ first ∷ more → fields_eq (fields_of first) heading ≡ true → rows_of (map fields_of entries) ≡ rows_from 1 (map fields_of more)
unfolding rows_of
behind_first entries first more are is = rw are (rw is refl)

pub within_limit : (place : ℕ) → place ≤ FILE_ROWS_MAX → nat_lt FILE_ROWS_MAX place ≡ false
within_limit place low = search (rules, tests)
