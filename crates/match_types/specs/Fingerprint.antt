-- Numbers by which patterns are told apart: the same for the same patterns, and hardly ever for others.
use Rattle.std.specs.Prelude.{ℕ, ◌+◌, ◌*◌, ◌%◌, ◌^◌, List}
use Rattle.std.specs.List.{fold}
use Rattle.match_types.specs.declared.fingerprint.TheConstants.{FINGERPRINT_FACTOR}
use Rattle.match_types.specs.declared.kind.MatchType.{MatchType}
use Rattle.match_types.specs.declared.kind.MatchType.TheVariants.{Exact, Phrase, Broad}
use Rattle.match_types.specs.Marks.{kind_of}
use Rattle.match_types.specs.Pattern.{words_in}

abbrev pub kind_number : MatchType → ℕ
kind_number Exact = 1
kind_number Phrase = 2
kind_number Broad = 3

-- a fingerprint with a number joined to it, in 64 bits
unfoldable pub joined : ℕ → ℕ → ℕ
joined fingerprint number = (fingerprint * FINGERPRINT_FACTOR % 2 ^ 64 + number) % 2 ^ 64

-- with the bytes of a word, and a zero behind them
abbrev pub joined_word : ℕ → List ℕ → ℕ
joined_word fingerprint word = joined (fold joined fingerprint word) 0

-- the fingerprint of a pattern, begun from a number: its kind is joined to that, and then its words
unfoldable pub fingerprint_from : ℕ → List ℕ → ℕ
fingerprint_from start pattern = fold joined_word (joined start (kind_number (kind_of pattern))) (words_in pattern)
