-- A phrase that stands in a list of words.
use Rattle.std.proofs.Common.{◌≡◌, ◌↔◌, ℕ, Bool, true, inl, inr, ◌+◌, ◌-◌, ◌<◌, ◌≤◌, List, [], ◌∷◌, ◌++◌, length, take, drop, refl, sym, ap, subst, ◌∙◌, arith, append_assoc, take-append-drop, length-append, All, Contains}
use Rattle.std.proofs.lemmas.Bool.{cases_lt}
use Rattle.std.proofs.lemmas.List.{take_all, length-drop}
use Rattle.std.proofs.lemmas.Slice.Eq.{starts_is, slice_eq-Decides, bytes_eq-Decides}
use Rattle.std.specs.List.{starts_with}
use Rattle.std.specs.Str.{bytes_eq}
use Rattle.std.specs.Cmp.Lexicographic.{pointwise}
use Rattle.match_types.specs.declared.kind.MatchType.{MatchType}
use Rattle.match_types.specs.declared.kind.MatchType.TheVariants.{Exact, Broad}
use Rattle.match_types.specs.Meets.{HasPhrase, Meets}

-- the phrase does not stand in the words from any place below n
abbrev pub IsMissingBelow : List (List ℕ) → List (List ℕ) → ℕ → Type 0
IsMissingBelow phrase words n = (k : ℕ) (rest : List (List ℕ)) → k < n → drop k words ≡ phrase ++ rest → ⊥

pub HasPhrase-at : (phrase words : List (List ℕ)) (k : ℕ) (rest : List (List ℕ)) → drop k words ≡ phrase ++ rest → HasPhrase phrase words
HasPhrase-at phrase words k rest e =
    (take k words, rest, sym (take-append-drop k words) ∙ ap (λ l. take k words ++ l) e ∙ sym (append_assoc (take k words) phrase rest))

drop-past : (before after : List (List ℕ)) → drop (length before) (before ++ after) ≡ after
drop-past [] after = refl
drop-past (word ∷ before) after = drop-past before after

pub no_phrase : (phrase words : List (List ℕ)) (n : ℕ) → IsMissingBelow phrase words n → length words < n → HasPhrase phrase words → ⊥
no_phrase phrase words n missing whole (before, after, e) =
    let laid : words ≡ before ++ (phrase ++ after) = e ∙ append_assoc before phrase after in
    let fits : length before < n = omega (arith, ap length laid, length-append before (phrase ++ after)) in
    missing (length before) after fits (ap (drop (length before)) laid ∙ drop-past before (phrase ++ after))

-- what `starts_with` says of the words from a place on
pub starts_at : (phrase words : List (List ℕ)) (start : ℕ) (r : Bool) → start ≤ length words → r ≡ starts_with bytes_eq (take (length words - start) (drop start words)) phrase
    → (r ≡ true → HasPhrase phrase words) × ((rest : List (List ℕ)) → drop start words ≡ phrase ++ rest → r ≡ true)
starts_at phrase words start r low is =
    let whole : take (length words - start) (drop start words) ≡ drop start words = take_all (length words - start) (drop start words) (omega (arith, length-drop start words)) in
    let tells = starts_is bytes_eq-Decides (drop start words) phrase r (subst (λ (l : List (List ℕ)). r ≡ starts_with bytes_eq l phrase) whole is) in (
      λ yes. HasPhrase-at phrase words start _ (tells.0 yes),
      tells.1,
    )

pub missing_more : (phrase words : List (List ℕ)) (start : ℕ) → IsMissingBelow phrase words start → ((rest : List (List ℕ)) → drop start words ≡ phrase ++ rest → ⊥) → IsMissingBelow phrase words (start + 1)
missing_more phrase words start below here k rest low =
    elim (cases_lt k start) [
      | inl before ↦ below k rest before
      | inr after ↦ let same : start ≡ k = omega arith in λ e. here rest (ap (λ n. drop n words) same ∙ e)
    ]

-- what holds of a broad pattern holds of the pattern's kind
pub Broad-from_words : (kind : MatchType) (pattern query : List (List ℕ)) (r : Bool) → kind ≡ Broad → (r ≡ true) ↔ All (λ word. Contains query word) pattern → (r ≡ true) ↔ Meets kind pattern query
Broad-from_words kind pattern query r broad is = subst (λ (k : MatchType). (r ≡ true) ↔ Meets k pattern query) (sym broad) is

-- two lists of words that `==` compares
pub Exact-from_eq : (kind : MatchType) (pattern query : List (List ℕ)) (r : Bool) → kind ≡ Exact → r ≡ pointwise bytes_eq query pattern → (r ≡ true) ↔ Meets kind pattern query
Exact-from_eq kind pattern query r exact is =
    subst (λ (k : MatchType). (r ≡ true) ↔ Meets k pattern query) (sym exact) (slice_eq-Decides bytes_eq-Decides query pattern r is)
