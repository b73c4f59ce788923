-- A number that is read digit by digit.
use Rattle.std.proofs.Common.{◌≡◌, ◌≢◌, ℕ, ◌<◌, ◌≤◌, ◌+◌, ◌*◌, ◌^◌, ◌⊎◌, inl, inr, List, [], ◌∷◌, length, take, get_or, refl, sym, ◌∙◌, true, false, arith}
use Rattle.std.specs.Prelude.{slice_index, Some, None}
use Rattle.std.specs.List.{list_all}
use Rattle.std.specs.Char.{is_ascii_digit, digit_value}
use Rattle.std.specs.Str.{IsAscii, IsUtf8}
use Rattle.std.specs.Str.Parse.{digits_value}
use Rattle.std.proofs.lemmas.Bool.{le-leb}
use Rattle.std.proofs.lemmas.Grind.{common_steps}
use Rattle.std.proofs.lemmas.Bool.Decides.{nat_tests}
use Rattle.std.proofs.lemmas.Int.Digits.{digits_value_more}
use Rattle.std.proofs.lemmas.List.{take_all}
use Rattle.std.proofs.lemmas.List.Folds.{list_all_more, list_all_at}
use Rattle.std.proofs.lemmas.Str.{IsUtf8-from_ascii}
use Rattle.std.proofs.lemmas.Str.Ascii.{IsAscii-nil, IsAscii-cons}
use Rattle.std.proofs.lemmas.Str.Parse.{digits_value-take-le}
use Rattle.desk_io.specs.Number.{is_numeral, number_within}

abbrev AreDigits : List ℕ → Type 0
AreDigits text = list_all is_ascii_digit text ≡ true

digits-IsAscii : (text : List ℕ) → AreDigits text → IsAscii text
digits-IsAscii [] h = IsAscii-nil
digits-IsAscii (b ∷ bs) h = IsAscii-cons b bs (grind (arith, nat_tests)) (digits-IsAscii bs (grind (arith, common_steps)))

numeral_digits : (text : List ℕ) → is_numeral text ≡ true → AreDigits text
unfolding is_numeral
numeral_digits text h = grind (arith, common_steps)

pub numeral-IsUtf8 : (text : List ℕ) → is_numeral text ≡ true → IsUtf8 text
numeral-IsUtf8 text h = IsUtf8-from_ascii text (digits-IsAscii text (numeral_digits text h))

-- so many bytes of a text were read, as the digits of this number
pub record HasRead (text : List ℕ) (count number : ℕ) : Type 0 where
  pub digits : AreDigits (take count text)
  pub value : number ≡ digits_value 10 (take count text)

pub HasRead-none : (text : List ℕ) → HasRead text 0 0
HasRead-none text = record { digits = refl; value = refl }

module _ (text : List ℕ) (i number : ℕ) (within : i < length text) (read : HasRead text i number) where
  pub HasRead-more : (more : ℕ) → is_ascii_digit (get_or text i 0) ≡ true → more ≡ number * 10 + digit_value (get_or text i 0) → HasRead text (i + 1) more
  HasRead-more more digit is = record {
    digits = list_all_more is_ascii_digit text i 0 within ∙ rw (read.digits, digit) refl;
    value = is ∙ (rw read.value refl ∙ sym (digits_value_more 10 text i within));
  }

  value_from : number * 10 + digit_value (get_or text i 0) ≤ digits_value 10 text
  value_from =
      let more : digits_value 10 (take (i + 1) text) ≡ number * 10 + digit_value (get_or text i 0) = digits_value_more 10 text i within ∙ rw read.value refl in
      omega (arith, more, digits_value-take-le 10 text (i + 1) (omega arith))

  -- a byte that is no digit, or a digit with which the number is too great
  pub none_behind : (least most : ℕ) → most < 2 ^ 64 → (is_ascii_digit (get_or text i 0) ≡ false) ⊎ (2 ^ 64 ≤ number * 10 + digit_value (get_or text i 0)) → number_within least most text ≡ None
  unfolding number_within is_numeral
  none_behind least most high (inl other) =
      let no : list_all is_ascii_digit text ≡ false = list_all_at is_ascii_digit text i 0 within other in grind (arith, common_steps)
  none_behind least most high (inr great) =
      let above : most < digits_value 10 text = omega (arith, value_from, great, high) in grind (arith, nat_tests, common_steps)

-- the whole text was read
module _ (text : List ℕ) (count number : ℕ) (read : HasRead text count number) (all : length text ≤ count) (some : 0 < length text)
    (begins : ((get_or text 0 0 ≡ 48) × (length text ≤ 1)) ⊎ (get_or text 0 0 ≢ 48)) where
  whole : take count text ≡ text
  whole = take_all count text all

  value : digits_value 10 text ≡ number
  value = sym (rw whole at read.value)

  numeral_if : ((get_or text 0 0 ≡ 48) × (length text ≤ 1)) ⊎ (get_or text 0 0 ≢ 48) → is_numeral text ≡ true
  unfolding is_numeral
  numeral_if (inl one) = let digits : AreDigits text = rw whole at read.digits in let single : length text ≡ 1 = omega (arith, some, one.1) in grind (arith, nat_tests, common_steps)
  numeral_if (inr other) = let digits : AreDigits text = rw whole at read.digits in grind (arith, nat_tests, common_steps)

  pub number_read : (least most : ℕ) → least ≤ number → number ≤ most → number_within least most text ≡ Some number
  unfolding number_within
  number_read least most low high = rw (numeral_if begins, value, le-leb least number low, le-leb number most high) refl

  pub number_outside : (least most : ℕ) → ((least ≤ number) × (most < number)) ⊎ (number < least) → number_within least most text ≡ None
  unfolding number_within
  number_outside least most (inl above) = rw (numeral_if begins, value) (grind (arith, nat_tests, common_steps))
  number_outside least most (inr below) = rw (numeral_if begins, value) (grind (arith, nat_tests, common_steps))

-- a text that begins as no number does
pub none_empty : (least most : ℕ) (text : List ℕ) → length text ≡ 0 → number_within least most text ≡ None
unfolding number_within is_numeral
none_empty least most [] h = refl
none_empty least most (byte ∷ more) h = absurd (omega (arith, h))

pub none_zero : (least most : ℕ) (text : List ℕ) → slice_index text 0 ≡ 48 → 1 < length text → number_within least most text ≡ None
unfolding number_within is_numeral
none_zero least most text zero long = grind (arith, nat_tests, common_steps)
