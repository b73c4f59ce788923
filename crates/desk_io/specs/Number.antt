-- Numbers as they stand in a text.
use Rattle.std.specs.Prelude.{ℕ, Bool, ◌==◌, ◌-◌, ◌^◌, ◌&&◌, ◌||◌, not, nat_lt, nat_le, if◌then◌else◌, List, length, slice_index, Option, Some, None}
use Rattle.std.specs.List.{list_all}
use Rattle.std.specs.Char.{is_ascii_digit}
use Rattle.std.specs.Str.Parse.{digits_value}

-- whether a text spells a number: digits alone, and no zero in front of another digit
unfoldable pub is_numeral : List ℕ → Bool
is_numeral text =
    nat_lt 0 (length text) && (list_all is_ascii_digit text && (length text == 1 || not (slice_index text 0 == 48)))

-- the number that a text spells, where it is in the range
unfoldable pub number_within : ℕ → ℕ → List ℕ → Option ℕ
number_within least most text =
    if is_numeral text && (nat_le least (digits_value 10 text) && nat_le (digits_value 10 text) most)
    then Some (digits_value 10 text)
    else None

-- the number that a text spells, where it is below 2^64
abbrev pub number : List ℕ → Option ℕ
number text = number_within 0 (2 ^ 64 - 1) text
