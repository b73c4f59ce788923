-- The lines of some bytes.
use Rattle.std.specs.Prelude.{ℕ, ◌+◌, ◌-◌, Bool, ◌==◌, nat_lt, if◌then◌else◌, List, [], ◌∷◌, length, take, drop, slice_index}
use Rattle.std.specs.List.{position_or_len, list_any, slice_split}

-- a line: its text, and how many bytes stood before its line feed or the end
pub record Line : Type 0 where
  pub text : List ℕ
  pub size : ℕ

abbrev pub is_line_feed : ℕ → Bool
is_line_feed byte = byte == 10

-- whether a line feed stands among the bytes
abbrev pub has_line_feed : List ℕ → Bool
has_line_feed bytes = list_any is_line_feed bytes

-- the bytes without the one carriage return at their end, if it is there
unfoldable pub without_return : List ℕ → List ℕ
without_return bytes = if slice_index bytes (length bytes - 1) == 13 then take (length bytes - 1) bytes else bytes

-- the line that a stretch before a line feed is, and the one that a stretch before the end is
abbrev pub ended_line : List ℕ → Line
ended_line bytes = record { text = without_return bytes; size = length bytes }

abbrev pub last_line : List ℕ → Line
last_line bytes = record { text = bytes; size = length bytes }

-- the lines of the stretches between line feeds: an empty last stretch is no line
unfoldable pub lines_of_stretches : List (List ℕ) → List Line
lines_of_stretches [] = []
lines_of_stretches (bytes ∷ []) = if length bytes == 0 then [] else last_line bytes ∷ []
lines_of_stretches (bytes ∷ next ∷ more) = ended_line bytes ∷ lines_of_stretches (next ∷ more)

-- the lines of some bytes: they are cut at each line feed, and a carriage return just before it is dropped
unfoldable pub lines : List ℕ → List Line
lines bytes = lines_of_stretches (slice_split is_line_feed bytes)

-- the first line of some bytes, and what stands behind its line feed
unfoldable pub first_line : List ℕ → Line
first_line bytes =
    let size = position_or_len is_line_feed bytes in
    if nat_lt size (length bytes) then ended_line (take size bytes) else last_line bytes

unfoldable pub after_first_line : List ℕ → List ℕ
after_first_line bytes = drop (position_or_len is_line_feed bytes + 1) bytes
