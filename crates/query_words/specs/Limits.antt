-- When the words of a text are refused.
use Rattle.std.specs.Prelude.{◌≡◌, ℕ, ◌<◌, ◌≤◌, List, length}
use Rattle.query_words.specs.declared.cut.TheConstants.{QUERY_BYTES, QUERY_WORDS}
use Rattle.query_words.specs.declared.cut.WordsError.{WordsError}
use Rattle.query_words.specs.declared.cut.WordsError.TheVariants.{TooLong, TooMany, NoMemory}
use Rattle.query_words.specs.Words.{words_of}

-- the text is short enough and has few enough words
pub record IsWithinLimits (text : List ℕ) : Type 0 where
  pub bytes : length text ≤ QUERY_BYTES
  pub words : length (words_of text) ≤ QUERY_WORDS

-- the cause holds of the text: the length is judged before the number of words, and memory is wanted between
abbrev pub HasCause : List ℕ → WordsError → Type 0
HasCause text (TooLong n) = (n ≡ length text) × (QUERY_BYTES < n)
HasCause text (TooMany n) = (length text ≤ QUERY_BYTES) × (n ≡ length (words_of text)) × (QUERY_WORDS < n)
HasCause text NoMemory = length text ≤ QUERY_BYTES
