-- Which queries meet a pattern.
use Rattle.std.specs.Prelude.{◌≡◌, ℕ, List, ◌++◌, All, Contains}
use Rattle.match_types.specs.declared.kind.MatchType.{MatchType}
use Rattle.match_types.specs.declared.kind.MatchType.TheVariants.{Exact, Phrase, Broad}

-- the phrase stands in the words without a break
abbrev pub HasPhrase : List (List ℕ) → List (List ℕ) → Type 0
HasPhrase phrase words = (before : List (List ℕ)) × (after : List (List ℕ)) × (words ≡ before ++ phrase ++ after)

-- the words of a query meet those of a pattern of this kind
abbrev pub Meets : MatchType → List (List ℕ) → List (List ℕ) → Type 0
Meets Exact pattern query = query ≡ pattern
Meets Phrase pattern query = HasPhrase pattern query
Meets Broad pattern query = All (λ word. Contains query word) pattern
