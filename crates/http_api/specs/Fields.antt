-- The fields of a head, by their names.
use Rattle.std.specs.Prelude.{ℕ, Bool, true, false, ◌==◌, ◌||◌, ◌&&◌, nat_lt, List, [], ◌∷◌, length, map, filter, codes}
use Rattle.std.specs.List.{list_all, list_any, slice_split}
use Rattle.std.specs.Char.{is_ascii_digit}
use Rattle.std.specs.Str.{str_eq_ignore_ascii_case}
use Rattle.std.specs.Str.Parse.{digits_value}
use Rattle.httparse.specs.Grammar.{trim_ows}
use Rattle.http_api.specs.HeadValue.{HeadValue}

-- the values of the fields of a name, in any ASCII case
unfoldable pub values_of : List ℕ → HeadValue → List (List ℕ)
values_of name head = map (λ field. field.1) (filter (λ field. str_eq_ignore_ascii_case field.0 name) head.fields)

-- whether a field has the name
abbrev pub has_field : List ℕ → HeadValue → Bool
has_field name head = nat_lt 0 (length (values_of name head))

-- whether a token stands among those of a value, which commas part, in any ASCII case; spaces and tabs round one are dropped
unfoldable pub has_token : List ℕ → List ℕ → Bool
has_token token value =
    list_any (λ part. str_eq_ignore_ascii_case (trim_ows part) token) (slice_split (λ byte. byte == 44) value)

-- a message asks to close by its version, or by the token `close` of a Connection field
abbrev pub asks_to_close : HeadValue → Bool
asks_to_close head = head.minor == 0 || list_any (has_token (codes "close")) (values_of (codes "connection") head)

-- the lengths of the body that a head tells
abbrev pub lengths_of : HeadValue → List (List ℕ)
lengths_of head = values_of (codes "content-length") head

-- at most one length is told, of digits alone
abbrev pub are_lengths : List (List ℕ) → Bool
are_lengths [] = true
are_lengths (value ∷ []) = nat_lt 0 (length value) && list_all is_ascii_digit value
are_lengths (value ∷ other ∷ more) = false

-- the length of the body, which is 0 where none is told
abbrev pub length_told : List (List ℕ) → ℕ
length_told [] = 0
length_told (value ∷ more) = digits_value 10 value
