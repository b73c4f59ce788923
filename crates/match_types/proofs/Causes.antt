-- The causes for which a text is no pattern.
use Rattle.std.proofs.Common.{◌≡◌, ℕ, ◌-◌, ◌<◌, ◌≤◌, Bool, true, false, cond, List, length, drop, Option, Some, None, refl, sym, ap, subst, ◌∙◌, arith, length-drop, length-take}
use Rattle.std.proofs.lemmas.Bool.{cond-true, cond-false, lt-ltb, le-ltb, ltb-false, eqb-false, not-false, not_from_true, not_from_false, true_from_ne_false, true≢false}
use Rattle.query_words.specs.Words.{words_of}
use Rattle.match_types.specs.declared.kind.MatchType.{MatchType}
use Rattle.match_types.specs.declared.kind.MatchType.TheVariants.{Exact, Phrase, Broad}
use Rattle.match_types.specs.declared.reading.PatternCause.{PatternCause}
use Rattle.match_types.specs.declared.reading.PatternCause.TheVariants.{TooLong, Minus, Unclosed}
use Rattle.match_types.specs.declared.reading.TheConstants.{PATTERN_BYTES, PATTERN_WORDS}
use Rattle.match_types.specs.Marks.{trimmed, begins_with, minus, without_minus, kind_of, is_closed, between_marks, inside}
use Rattle.match_types.specs.Pattern.{words_in, words_cause, refusal, negative_text, negative_refusal, IsPattern}
use Rattle.match_types.proofs.Spaces.{trimmed_idem, length-trimmed}

pub refusal-too_long : (text : List ℕ) → PATTERN_BYTES < length text → refusal text ≡ Some TooLong
unfolding refusal
refusal-too_long text long = cond-true _ _ _ (lt-ltb PATTERN_BYTES (length text) long)

pub refusal-minus : (text : List ℕ) → length text ≤ PATTERN_BYTES → begins_with minus (trimmed text) ≡ true → refusal text ≡ Some Minus
unfolding refusal
refusal-minus text short signed = cond-false _ _ _ (le-ltb PATTERN_BYTES (length text) short) ∙ cond-true _ _ _ signed

pub refusal-unclosed : (text : List ℕ) → length text ≤ PATTERN_BYTES → begins_with minus (trimmed text) ≡ false → is_closed (trimmed text) ≡ false → refusal text ≡ Some Unclosed
unfolding refusal
refusal-unclosed text short unsigned unclosed =
    cond-false _ _ _ (le-ltb PATTERN_BYTES (length text) short) ∙ cond-false _ _ _ unsigned ∙ cond-true _ _ _ (not_from_false _ unclosed)

pub refusal-words : (text : List ℕ) → length text ≤ PATTERN_BYTES → begins_with minus (trimmed text) ≡ false → is_closed (trimmed text) ≡ true → refusal text ≡ words_cause (words_in (trimmed text))
unfolding refusal
refusal-words text short unsigned closed =
    cond-false _ _ _ (le-ltb PATTERN_BYTES (length text) short) ∙ cond-false _ _ _ unsigned ∙ cond-false _ _ _ (not_from_true _ closed)

-- once the spaces are gone, no minus begins the text and its marks are closed, the words decide
pub refusal-read : (text bare between : List ℕ) → length text ≤ PATTERN_BYTES → bare ≡ trimmed text → false ≡ begins_with minus bare → (is_closed bare ≡ false → true ≡ false) → between ≡ inside bare
    → refusal text ≡ words_cause (words_of between)
refusal-read text bare between short is_bare unsigned closed is_between =
    let shut : is_closed bare ≡ true = true_from_ne_false _ (λ no. true≢false (closed no)) in
    refusal-words text short (ap (begins_with minus) (sym is_bare) ∙ sym unsigned) (ap is_closed (sym is_bare) ∙ shut)
    ∙ ap (λ t. words_cause (words_of t)) (ap inside (sym is_bare) ∙ sym is_between)

length-between_marks : (kind : MatchType) (text : List ℕ) → length (between_marks kind text) ≤ length text
length-between_marks Exact text = omega (arith, length-take (length text - 1 - 1) (drop 1 text), length-drop 1 text)
length-between_marks Phrase text = omega (arith, length-take (length text - 1 - 1) (drop 1 text), length-drop 1 text)
length-between_marks Broad text = omega arith

-- what stands between the marks is no longer than the text that was read
pub length-inside : (text bare between : List ℕ) → bare ≡ trimmed text → between ≡ inside bare → length between ≤ length text
length-inside text bare between is_bare is_between =
    omega (arith, ap length is_between, ap length is_bare, length-trimmed text, length-between_marks (kind_of bare) bare)

-- ---- a text that no cause refuses

-- no cause holds of the text
record IsAccepted (text : List ℕ) : Type 0 where
  short : length text ≤ PATTERN_BYTES
  unsigned : begins_with minus (trimmed text) ≡ false
  closed : is_closed (trimmed text) ≡ true
  few : words_cause (words_in (trimmed text)) ≡ None

passes : (test : Bool) (cause : PatternCause) (later : Option PatternCause) → cond test (Some cause) later ≡ None → (test ≡ false) × (later ≡ None)
passes true cause later e = cc
passes false cause later e = (refl, e)

IsAccepted-from : (text : List ℕ) → refusal text ≡ None → IsAccepted text
unfolding refusal
IsAccepted-from text none =
    let long = passes _ _ _ none in
    let signed = passes _ _ _ long.1 in
    let unclosed = passes _ _ _ signed.1 in
    record {
      short = ltb-false PATTERN_BYTES (length text) long.0;
      unsigned = signed.0;
      closed = not-false _ unclosed.0;
      few = unclosed.1;
    }

-- the text that a reading keeps is the text of a pattern
pub IsPattern-trimmed : (text : List ℕ) → refusal text ≡ None → IsPattern (trimmed text)
IsPattern-trimmed text none =
    let is = IsAccepted-from text none in
    let same = sym (trimmed_idem text) in
    record {
      accepted =
          refusal-words (trimmed text) (let fits = length-trimmed text in let short = is.short in omega arith)
          (subst (λ (t : List ℕ). begins_with minus t ≡ false) same is.unsigned) (subst (λ (t : List ℕ). is_closed t ≡ true) same is.closed)
          ∙ subst (λ (t : List ℕ). words_cause (words_in t) ≡ None) same is.few;
      bare = trimmed_idem text;
    }

words_cause-none : (words : List (List ℕ)) → words_cause words ≡ None → (1 ≤ length words) × (length words ≤ PATTERN_WORDS)
words_cause-none words none =
    let empty = passes _ _ _ none in
    let many = passes _ _ _ empty.1 in
    let some = eqb-false (length words) 0 empty.0 in
    (grind arith, ltb-false PATTERN_WORDS (length words) many.0)

pub length-words_in : (text : List ℕ) → IsPattern text → (1 ≤ length (words_in text)) × (length (words_in text) ≤ PATTERN_WORDS)
length-words_in text pattern = words_cause-none _ (subst (λ (t : List ℕ). words_cause (words_in t) ≡ None) pattern.bare (IsAccepted-from text pattern.accepted).few)

without_minus-pattern : (text : List ℕ) → IsPattern text → without_minus (trimmed text) ≡ text
without_minus-pattern text pattern = cond-false _ _ _ (IsAccepted-from text pattern.accepted).unsigned ∙ pattern.bare

-- a pattern's text is read as a negative too
pub negative-pattern : (text : List ℕ) → IsPattern text → (negative_refusal text ≡ None) × (negative_text text ≡ text)
negative-pattern text pattern =
    let same = without_minus-pattern text pattern in (
      cond-false _ _ _ (le-ltb PATTERN_BYTES (length text) (IsAccepted-from text pattern.accepted).short) ∙ ap refusal same ∙ pattern.accepted,
      ap trimmed same ∙ pattern.bare,
    )
