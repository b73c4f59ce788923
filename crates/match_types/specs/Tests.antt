-- The facts on patterns as tests, for definitions that choose by them.
use Rattle.std.specs.Prelude.{ℕ, Bool, true, false, ◌&&◌, ◌||◌, List, [], ◌∷◌}
use Rattle.std.specs.Cmp.Lexicographic.{pointwise}
use Rattle.std.specs.List.{starts_with, list_any, list_all}
use Rattle.std.specs.Str.{bytes_eq}
use Rattle.match_types.specs.declared.kind.MatchType.{MatchType}
use Rattle.match_types.specs.declared.kind.MatchType.TheVariants.{Exact, Phrase, Broad}
use Rattle.match_types.specs.Marks.{kind_of}
use Rattle.match_types.specs.Pattern.{words_in}

-- two lists have the same words, in order
abbrev pub are_same_words : List (List ℕ) → List (List ℕ) → Bool
are_same_words = pointwise bytes_eq

-- the phrase begins the words, or stands further on
abbrev pub has_phrase : List (List ℕ) → List (List ℕ) → Bool
has_phrase phrase [] = starts_with bytes_eq [] phrase
has_phrase phrase (word ∷ words) = starts_with bytes_eq (word ∷ words) phrase || has_phrase phrase words

-- each wanted word is one of the words
abbrev pub has_words : List (List ℕ) → List (List ℕ) → Bool
has_words wanted words = list_all (λ word. list_any (λ other. bytes_eq other word) words) wanted

-- `Meets` as a test
unfoldable pub meets : MatchType → List (List ℕ) → List (List ℕ) → Bool
meets Exact pattern query = are_same_words query pattern
meets Phrase pattern query = has_phrase pattern query
meets Broad pattern query = has_words pattern query

abbrev pub is_same_kind : MatchType → MatchType → Bool
is_same_kind Exact Exact = true
is_same_kind Phrase Phrase = true
is_same_kind Broad Broad = true
is_same_kind one other = false

-- `IsSamePattern` as a test
unfoldable pub is_same_pattern : List ℕ → List ℕ → Bool
is_same_pattern one other = is_same_kind (kind_of one) (kind_of other) && are_same_words (words_in one) (words_in other)
