-- The key of an ASCII text.
use Rattle.std.proofs.Common.{◌≡◌, List, map, chars, encode_utf8_all, ap, ◌∙◌}
use Rattle.std.specs.Char.{to_ascii_lowercase}
use Rattle.std.specs.Str.{IsAscii}
use Rattle.std.proofs.lemmas.Str.{chars-IsAscii}
use Rattle.std.proofs.lemmas.Str.Ascii.{encodes-IsAscii, IsAscii-map, lowercase_ascii}
use Rattle.std.proofs.Common.{ℕ}
use Rattle.caseless.proofs.CaselessLemmas.{default_case_fold-ascii, canonical_key-ascii, All-chars}
use Rattle.query_words.specs.Words.{key}

-- the key of ASCII is the text in lower case
pub key-ascii : (text : List ℕ) → IsAscii text → encode_utf8_all (key text) ≡ map to_ascii_lowercase text
key-ascii text ascii =
    let low = All-chars text ascii in
    ap encode_utf8_all (canonical_key-ascii (chars text) low ∙ default_case_fold-ascii (chars text) low ∙ ap (map to_ascii_lowercase) (chars-IsAscii text ascii))
    ∙ encodes-IsAscii _ (IsAscii-map to_ascii_lowercase text lowercase_ascii ascii)
