-- The pattern of a text, and why a text is none.
use Rattle.std.specs.Prelude.{◌≡◌, ℕ, Bool, not, nat_lt, ◌==◌, if◌then◌else◌, List, [], ◌∷◌, length, Option, Some, None}
use Rattle.query_words.specs.Words.{words_of}
use Rattle.match_types.specs.declared.kind.MatchType.{MatchType}
use Rattle.match_types.specs.declared.reading.TheConstants.{PATTERN_BYTES, PATTERN_WORDS}
use Rattle.match_types.specs.declared.reading.PatternCause.{PatternCause}
use Rattle.match_types.specs.declared.reading.PatternCause.TheVariants.{TooLong, Minus, Unclosed, NoWords, TooMany}
use Rattle.match_types.specs.declared.reading.PatternError.{PatternError}
use Rattle.match_types.specs.declared.reading.PatternError.TheVariants as error
use Rattle.match_types.specs.Marks.{trimmed, begins_with, minus, without_minus, kind_of, inside, is_closed}

-- the cause that a failed reading tells; want of memory tells none
abbrev pub cause_of : PatternError → Option PatternCause
cause_of error.TooLong = Some TooLong
cause_of error.Minus = Some Minus
cause_of error.Unclosed = Some Unclosed
cause_of error.NoWords = Some NoWords
cause_of error.TooMany = Some TooMany
cause_of error.NoMemory = None

-- the words of a pattern's text are those between its marks
abbrev pub words_in : List ℕ → List (List ℕ)
words_in text = words_of (inside text)

-- the first cause whose test holds
abbrev pub first_cause : List (Bool × PatternCause) → Option PatternCause
first_cause [] = None
first_cause (judged ∷ later) = if judged.0 then Some judged.1 else first_cause later

-- the causes that the number of words may give, in order
abbrev pub word_causes : List (List ℕ) → List (Bool × PatternCause)
word_causes words = (length words == 0, NoWords) ∷ (nat_lt PATTERN_WORDS (length words), TooMany) ∷ []

-- the first of them that holds
abbrev pub words_cause : List (List ℕ) → Option PatternCause
words_cause words = first_cause (word_causes words)

-- the causes for which a text is no pattern, in the order in which they are judged
abbrev pub causes : List ℕ → List (Bool × PatternCause)
causes text =
    let pattern = trimmed text in
    (nat_lt PATTERN_BYTES (length text), TooLong) ∷ (begins_with minus pattern, Minus) ∷ (not (is_closed pattern), Unclosed)
    ∷ word_causes (words_in pattern)

-- the first cause for which the text is no pattern; the pattern's text is then the trimmed one
unfoldable pub refusal : List ℕ → Option PatternCause
refusal text = first_cause (causes text)

-- what is left of a negative's text once the spaces at its ends and one minus are gone
abbrev pub negative_text : List ℕ → List ℕ
negative_text text = trimmed (without_minus (trimmed text))

-- the first cause for which the text is no negative: its length first, and then those of what is left
abbrev pub negative_refusal : List ℕ → Option PatternCause
negative_refusal text =
    if nat_lt PATTERN_BYTES (length text) then Some TooLong else refusal (without_minus (trimmed text))

-- the text of a pattern: it is one, and has no spaces at its ends
pub record IsPattern (text : List ℕ) : Type 0 where
  pub accepted : refusal text ≡ None
  pub bare : trimmed text ≡ text

-- the kind and the words of a pattern are those of its text
pub record IsRead (text : List ℕ) (kind : MatchType) (words : List (List ℕ)) : Type 0 where
  pub pattern : IsPattern text
  pub kind_is : kind ≡ kind_of text
  pub words_are : words ≡ words_in text

-- two patterns are the same where their kinds and their words are equal, in order
abbrev pub IsSamePattern : List ℕ → List ℕ → Type 0
IsSamePattern one other = (kind_of one ≡ kind_of other) × (words_in one ≡ words_in other)
