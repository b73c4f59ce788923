-- The words of a text.
use Rattle.std.specs.Prelude.{ℕ, Bool, not, ◌&&◌, ◌||◌, nat_lt, List, filter, map, length, chars, encode_utf8_all}
use Rattle.std.specs.Char.{is_ascii_alphanumeric, is_whitespace}
use Rattle.std.specs.List.{slice_split}
use Rattle.caseless.specs.Caseless.{canonical_key}

-- the characters of a text decomposed, case folded and decomposed again: NFD(toCasefold(NFD(text))), Unicode's D145
abbrev pub key : List ℕ → List ℕ
key text = canonical_key (chars text)

-- where a key is cut: at each ASCII character that is no letter or digit, and at each White_Space character
abbrev pub is_cutting : ℕ → Bool
is_cutting c = (nat_lt c 128 && not (is_ascii_alphanumeric c)) || is_whitespace c

-- the stretch has a character
abbrev pub is_nonempty : List ℕ → Bool
is_nonempty stretch = nat_lt 0 (length stretch)

-- the longest stretches of the key that are not empty and hold no cutting character, in order, each as its bytes
unfoldable pub words_of : List ℕ → List (List ℕ)
words_of text = map encode_utf8_all (filter is_nonempty (slice_split is_cutting (key text)))
