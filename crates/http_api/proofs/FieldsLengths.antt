-- A length that is read digit by digit.
use Rattle.std.proofs.Common.{◌≡◌, ℕ, ◌+◌, ◌*◌, ◌<◌, ◌≤◌, ◌⊎◌, inl, inr, true, false, not, ◌||◌, Bool, Option, Some, None, IfSome, min, ap, List, [], ◌∷◌, length, take, get_or, refl, sym, ◌∙◌, arith}
use Rattle.std.specs.Prelude.{IfNone, codes, nat_lt}
use Rattle.std.specs.List.{list_all}
use Rattle.std.specs.Char.{is_ascii_digit, digit_value}
use Rattle.std.specs.Str.Parse.{digits_value}
use Rattle.std.proofs.lemmas.Bool.{and_left, and_right, and_from, false≢true, lt-ltb, le-ltb, not_from_false, not_from_true, or_left, or_right}
use Rattle.std.proofs.lemmas.Int.Digits.{digits_value_more}
use Rattle.std.proofs.lemmas.List.{take_all}
use Rattle.std.proofs.lemmas.List.Folds.{list_all_more, list_all_at}
use Rattle.http_api.specs.declared.judgement.Judgement.TheVariants.{NotBuilt}
use Rattle.http_api.specs.declared.limits.TheConstants.{BODY_BYTES_MAX, FIELDS_MAX}
use Rattle.http_api.specs.Fields.{are_lengths, has_field, length_told, lengths_of}
use Rattle.http_api.specs.HeadValue.{HeadValue}
use Rattle.http_api.specs.Judging.{body_length, first_made, unless_judged}

-- so many bytes were read, as the digits of this number, or of one past that of any body
pub record HasLength (digits : List ℕ) (count size : ℕ) : Type 0 where
  pub all : list_all is_ascii_digit (take count digits) ≡ true
  pub value : size ≡ min (digits_value 10 (take count digits)) (BODY_BYTES_MAX + 1)

module _ (digits : List ℕ) (i size : ℕ) (within : i < length digits) (read : HasLength digits i size) where
  pub HasLength-more : (more : ℕ) → is_ascii_digit (get_or digits i 0) ≡ true → more ≡ min (size * 10 + digit_value (get_or digits i 0)) (BODY_BYTES_MAX + 1) → HasLength digits (i + 1) more
  HasLength-more more digit is = record {
    all = list_all_more is_ascii_digit digits i 0 within ∙ and_from _ _ read.all digit;
    value = omega (arith, is, read.value, digits_value_more 10 digits i within);
  }

  pub other_byte : is_ascii_digit (get_or digits i 0) ≡ false → are_lengths (digits ∷ []) ≡ false
  other_byte other = and_right _ _ (list_all_at is_ascii_digit digits i 0 within other)

pub no_bytes : (digits : List ℕ) → length digits ≡ 0 → are_lengths (digits ∷ []) ≡ false
no_bytes digits none = and_left _ _ (le-ltb 0 (length digits) (omega arith))

module _ (digits : List ℕ) (count size : ℕ) (read : HasLength digits count size) (all : length digits ≤ count) (some : 0 < length digits) where
  pub all_digits : are_lengths (digits ∷ []) ≡ true
  all_digits = and_from _ _ (lt-ltb 0 (length digits) some) (rw (take_all count digits all) at read.all)

  pub value_read : size ≡ min (digits_value 10 digits) (BODY_BYTES_MAX + 1)
  value_read = rw (take_all count digits all) at read.value

-- how long the body is, by the tests of a head
of_tests : Bool → Bool → Bool → Bool → ℕ → Option ℕ
of_tests many coded odd long size = unless_judged (first_made ((many, NotBuilt) ∷ (coded, NotBuilt) ∷ (odd, NotBuilt) ∷ (long, NotBuilt) ∷ [])) size

some_hold : (many coded odd long : Bool) (size : ℕ) → (many || (coded || (odd || long))) ≡ true → of_tests many coded odd long size ≡ None
unfolding of_tests first_made
some_hold true coded odd long size holds = refl
some_hold false true odd long size holds = refl
some_hold false false true long size holds = refl
some_hold false false false true size holds = refl
some_hold false false false false size holds = absurd (false≢true holds)

none_hold : (many coded odd long : Bool) (size : ℕ) → many ≡ false → coded ≡ false → odd ≡ false → long ≡ false → of_tests many coded odd long size ≡ Some size
unfolding of_tests first_made
none_hold many coded odd long size a b c d = rw (a, b, c, d) refl

module _ (head : HeadValue) where
  with_values : List (List ℕ) → Option ℕ
  with_values values =
      of_tests (nat_lt FIELDS_MAX (length head.fields)) (has_field (codes "transfer-encoding") head) (not (are_lengths values)) (nat_lt BODY_BYTES_MAX (length_told values)) (length_told values)

  by_values : (values : List (List ℕ)) → lengths_of head ≡ values → with_values values ≡ body_length head
  unfolding with_values of_tests body_length
  by_values values is = ap with_values (sym is)

  pub too_many : FIELDS_MAX < length head.fields → None ≡ body_length head
  unfolding with_values
  too_many many = sym (some_hold _ _ _ _ _ (or_left _ _ (lt-ltb FIELDS_MAX (length head.fields) many))) ∙ by_values (lengths_of head) refl

  pub is_coded : true ≡ has_field (codes "transfer-encoding") head → None ≡ body_length head
  unfolding with_values
  is_coded coded = sym (some_hold _ _ _ _ _ (or_right (nat_lt FIELDS_MAX (length head.fields)) _ (or_left _ _ (sym coded)))) ∙ by_values (lengths_of head) refl

  module _ (few : length head.fields ≤ FIELDS_MAX) (plain : false ≡ has_field (codes "transfer-encoding") head) where
    pub no_length : lengths_of head ≡ [] → Some 0 ≡ body_length head
    unfolding with_values
    no_length is = sym (none_hold _ _ _ _ _ (le-ltb FIELDS_MAX (length head.fields) few) (sym plain) refl refl) ∙ by_values [] is

    pub one_length : (digits : List ℕ) (result : Option ℕ) → lengths_of head ≡ digits ∷ [] → IfSome result (λ size. (are_lengths (digits ∷ []) ≡ true) × (digits_value 10 digits ≡ size) × (size ≤ BODY_BYTES_MAX)) →
        IfNone result ((are_lengths (digits ∷ []) ≡ false) ⊎ (BODY_BYTES_MAX < digits_value 10 digits)) → result ≡ body_length head
    unfolding with_values
    one_length digits (Some size) is some none =
        ap Some (sym some.1)
        ∙ (sym (none_hold _ _ _ _ _ (le-ltb FIELDS_MAX (length head.fields) few) (sym plain) (not_from_true _ some.0) (le-ltb BODY_BYTES_MAX (digits_value 10 digits) (omega (arith, some.1, some.2))))
        ∙ by_values (digits ∷ []) is)
    one_length digits None is some (inl odd) =
        sym (some_hold _ _ _ _ _ (or_right (nat_lt FIELDS_MAX (length head.fields)) _ (or_right (has_field (codes "transfer-encoding") head) _ (or_left _ _ (not_from_false _ odd))))) ∙ by_values (digits ∷ []) is
    one_length digits None is some (inr long) =
        sym (some_hold _ _ _ _ _ (or_right (nat_lt FIELDS_MAX (length head.fields)) _ (or_right (has_field (codes "transfer-encoding") head) _ (or_right (not (are_lengths (digits ∷ []))) _ (lt-ltb BODY_BYTES_MAX (digits_value 10 digits) long)))))
        ∙ by_values (digits ∷ []) is

    pub more_lengths : (first : List ℕ) → (other : List ℕ) × (more : List (List ℕ)) × (lengths_of head ≡ first ∷ other ∷ more) → None ≡ body_length head
    unfolding with_values
    more_lengths first (other, more, is) =
        sym (some_hold _ _ _ _ _ (or_right (nat_lt FIELDS_MAX (length head.fields)) _ (or_right (has_field (codes "transfer-encoding") head) _ (or_left true (nat_lt BODY_BYTES_MAX (length_told (first ∷ other ∷ more))) refl)))) ∙ by_values (first ∷ other ∷ more) is
