-- The spaces and marks of a pattern's text.
use Rattle.std.specs.Prelude.{ℕ, ◌-◌, Bool, true, false, ◌==◌, if◌then◌else◌, List, [], ◌∷◌, drop, length, reverse, slice_range}
use Rattle.match_types.specs.declared.kind.MatchType.{MatchType}
use Rattle.match_types.specs.declared.kind.MatchType.TheVariants.{Exact, Phrase, Broad}

-- `b' '`
abbrev pub space : ℕ
space = 32

-- `b'-'`
abbrev pub minus : ℕ
minus = 45

-- `b'['` and `b']'`
abbrev pub left_bracket : ℕ
left_bracket = 91

abbrev pub right_bracket : ℕ
right_bracket = 93

-- `b'"'`
abbrev pub quotation_mark : ℕ
quotation_mark = 34

-- the text from its first byte on that is no space
abbrev pub without_front_spaces : List ℕ → List ℕ
without_front_spaces [] = []
without_front_spaces (b ∷ text) = if b == space then without_front_spaces text else b ∷ text

-- the text without the spaces at both ends
unfoldable pub trimmed : List ℕ → List ℕ
trimmed text = reverse (without_front_spaces (reverse (without_front_spaces text)))

-- the first byte of the text is the mark, or its last
abbrev pub begins_with : ℕ → List ℕ → Bool
begins_with mark [] = false
begins_with mark (b ∷ text) = b == mark

abbrev pub ends_with : ℕ → List ℕ → Bool
ends_with mark text = begins_with mark (reverse text)

-- the text without one minus in front, if there is one
abbrev pub without_minus : List ℕ → List ℕ
without_minus text = if begins_with minus text then drop 1 text else text

-- a text that begins with a bracket is exact, one that begins with a quotation mark a phrase, and any other is broad
abbrev pub kind_of : List ℕ → MatchType
kind_of text = if begins_with left_bracket text then Exact else (if begins_with quotation_mark text then Phrase else Broad)

-- what follows a mark at the start ends with its mate
abbrev pub is_closed_as : MatchType → List ℕ → Bool
is_closed_as Exact text = ends_with right_bracket (drop 1 text)
is_closed_as Phrase text = ends_with quotation_mark (drop 1 text)
is_closed_as Broad text = true

abbrev pub is_closed : List ℕ → Bool
is_closed text = is_closed_as (kind_of text) text

-- what stands between the marks, or the whole text where there are none
abbrev pub between_marks : MatchType → List ℕ → List ℕ
between_marks Exact text = slice_range text 1 (length text - 1)
between_marks Phrase text = slice_range text 1 (length text - 1)
between_marks Broad text = text

abbrev pub inside : List ℕ → List ℕ
inside text = between_marks (kind_of text) text
