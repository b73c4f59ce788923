-- The tests on patterns decide the facts.
use Rattle.std.proofs.Common.{◌≡◌, ℕ, true, List, [], ◌∷◌, ◌++◌, All, Contains, refl, ap, inl, inr}
use Rattle.std.proofs.lemmas.Bool.{or_cases, or_left, or_right, and_parts, and_from}
use Rattle.std.proofs.lemmas.Bool.Decides.{Decides-by_and, Decides-by_or}
use Rattle.std.proofs.lemmas.List.Elements.{Decides-contains}
use Rattle.std.proofs.lemmas.Slice.Eq.{starts_is, slice_eq-Decides, bytes_eq-Decides}
use Rattle.std.specs.Bool.{Decides}
use Rattle.std.specs.List.{starts_with, list_any, list_all}
use Rattle.std.specs.Str.{bytes_eq}
use Rattle.match_types.specs.declared.kind.MatchType.{MatchType}
use Rattle.match_types.specs.declared.kind.MatchType.TheVariants.{Exact, Phrase, Broad}
use Rattle.match_types.specs.Marks.{kind_of}
use Rattle.match_types.specs.Meets.{HasPhrase, Meets}
use Rattle.match_types.specs.Pattern.{words_in, IsSamePattern}
use Rattle.match_types.specs.Tests.{are_same_words, has_phrase, has_words, meets, is_same_kind, is_same_pattern}

are_same_words-decides : (one other : List (List ℕ)) → Decides (are_same_words one other) (one ≡ other)
are_same_words-decides one other = slice_eq-Decides bytes_eq-Decides one other (are_same_words one other) refl

has_phrase-found : (phrase words : List (List ℕ)) → has_phrase phrase words ≡ true → HasPhrase phrase words
has_phrase-found phrase [] holds =
    let starts = starts_is bytes_eq-Decides [] phrase (starts_with bytes_eq [] phrase) refl in
    ([], _, starts.0 holds)
has_phrase-found phrase (word ∷ words) holds =
    let starts = starts_is bytes_eq-Decides (word ∷ words) phrase (starts_with bytes_eq (word ∷ words) phrase) refl in
    elim (or_cases _ _ holds) [
      | inl here ↦ ([], _, starts.0 here)
      | inr later ↦ let found = has_phrase-found phrase words later in (word ∷ found.0, found.1, ap (λ l. word ∷ l) found.2)
    ]

has_phrase-from : (phrase words before after : List (List ℕ)) → words ≡ before ++ phrase ++ after → has_phrase phrase words ≡ true
has_phrase-from phrase [] [] after e = (starts_is bytes_eq-Decides [] phrase (starts_with bytes_eq [] phrase) refl).1 after e
has_phrase-from phrase [] (first ∷ before) after e = cc
has_phrase-from phrase (word ∷ words) [] after e =
    or_left _ _ ((starts_is bytes_eq-Decides (word ∷ words) phrase (starts_with bytes_eq (word ∷ words) phrase) refl).1 after e)
has_phrase-from phrase (word ∷ words) (first ∷ before) after e =
    or_right _ _ (has_phrase-from phrase words before after (let whole : word ∷ words ≡ first ∷ (before ++ phrase ++ after) = e in cc))

list_any-decides : (words : List (List ℕ)) (word : List ℕ) → Decides (list_any (λ other. bytes_eq other word) words) (Contains words word)
list_any-decides words word =
    Decides-contains words word _ (Decides-by_or (λ other. bytes_eq other word) (λ other. other ≡ word) (list_any (λ other. bytes_eq other word)) (λ other. bytes_eq-Decides other word) refl (λ x xs. refl) words)

has_words-decides : (wanted words : List (List ℕ)) → Decides (has_words wanted words) (All (λ word. Contains words word) wanted)
has_words-decides wanted words =
    Decides-by_and (λ word. list_any (λ other. bytes_eq other word) words) (λ word. Contains words word) (list_all (λ word. list_any (λ other. bytes_eq other word) words)) (list_any-decides words) refl (λ x xs. refl) wanted

-- `meets` decides `Meets`
pub meets-decides : (kind : MatchType) (pattern query : List (List ℕ)) → Decides (meets kind pattern query) (Meets kind pattern query)
unfolding meets
meets-decides Exact pattern query = are_same_words-decides query pattern
meets-decides Phrase pattern query = (has_phrase-found pattern query, λ (before, after, e). has_phrase-from pattern query before after e)
meets-decides Broad pattern query = has_words-decides pattern query

is_same_kind-decides : (one other : MatchType) → Decides (is_same_kind one other) (one ≡ other)
is_same_kind-decides Exact Exact = (λ _. refl, λ _. refl)
is_same_kind-decides Exact Phrase = (λ holds. cc, λ e. cc)
is_same_kind-decides Exact Broad = (λ holds. cc, λ e. cc)
is_same_kind-decides Phrase Exact = (λ holds. cc, λ e. cc)
is_same_kind-decides Phrase Phrase = (λ _. refl, λ _. refl)
is_same_kind-decides Phrase Broad = (λ holds. cc, λ e. cc)
is_same_kind-decides Broad Exact = (λ holds. cc, λ e. cc)
is_same_kind-decides Broad Phrase = (λ holds. cc, λ e. cc)
is_same_kind-decides Broad Broad = (λ _. refl, λ _. refl)

-- `is_same_pattern` decides `IsSamePattern`
pub is_same_pattern-decides : (one other : List ℕ) → Decides (is_same_pattern one other) (IsSamePattern one other)
unfolding is_same_pattern
is_same_pattern-decides one other =
    let kinds = is_same_kind-decides (kind_of one) (kind_of other) in
    let words = are_same_words-decides (words_in one) (words_in other) in (
      λ holds. let parts = and_parts _ _ holds in (kinds.0 parts.0, words.0 parts.1),
      λ same. and_from _ _ (kinds.1 same.0) (words.1 same.1),
    )
