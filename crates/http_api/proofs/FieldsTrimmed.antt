-- Bytes without the spaces and tabs at both ends.
use Rattle.std.proofs.Common.{◌≡◌, ℕ, ◌-◌, ◌≤◌, Bool, true, false, not, cond, ltb, Option, Some, None, List, [], ◌∷◌, ◌++◌, length, take, drop, reverse, refl, sym, ap, ◌∙◌, one-add, arith}
use Rattle.std.specs.List.{position_or_len}
use Rattle.std.specs.Prelude.{unwrap_or}
use Rattle.std.proofs.lemmas.Bool.{ltb-false}
use Rattle.std.proofs.lemmas.List.{drop_at, length-drop, length-reverse, reverse-append, reverse-reverse, take-append-drop}
use Rattle.std.proofs.lemmas.List.Sums.{prefix_len-le-length}
use Rattle.httparse.specs.Grammar.{is_ows, skip_ows, trim_ows}

abbrev pub spaces : List ℕ → ℕ
spaces bytes = position_or_len (λ byte. not (is_ows byte)) bytes

-- what is behind the spaces in front
pub skipped : (bytes : List ℕ) → skip_ows bytes ≡ drop (spaces bytes) bytes
skipped [] = refl
skipped (byte ∷ more) = by_test (skipped more) (is_ows byte) refl
  where
    by_test : skip_ows more ≡ drop (spaces more) more → (test : Bool) → is_ows byte ≡ test → skip_ows (byte ∷ more) ≡ drop (spaces (byte ∷ more)) (byte ∷ more)
    by_test rest true is = rw (is, one-add) rest
    by_test rest false is = rw is refl

pub spaces_fit : (bytes : List ℕ) → spaces bytes ≤ length bytes
spaces_fit bytes = prefix_len-le-length (λ (byte : ℕ). not (not (is_ows byte))) bytes

-- what is left where so many are dropped at the end
without_last : (bytes : List ℕ) (n : ℕ) → n ≤ length bytes → reverse (drop n (reverse bytes)) ≡ take (length bytes - n) bytes
without_last bytes n fits =
    let front = take (length bytes - n) bytes in
    let back = drop (length bytes - n) bytes in
    let parts : reverse bytes ≡ reverse back ++ reverse front = ap reverse (sym (take-append-drop (length bytes - n) bytes)) ∙ reverse-append front back in
    let long : length (reverse back) ≡ n = length-reverse back ∙ (length-drop (length bytes - n) bytes ∙ omega arith) in
    ap (λ (those : List ℕ). reverse (drop n those)) parts ∙ (ap reverse (drop_at (reverse back) (reverse front) n long) ∙ reverse-reverse front)

-- the parts that are cut off
pub trimmed : (bytes rest : List ℕ) (front back : ℕ) → rest ≡ drop front bytes → front ≡ spaces bytes → back ≡ spaces (reverse rest) → back ≤ length rest → take (length rest - back) rest ≡ trim_ows bytes
unfolding trim_ows
trimmed bytes rest front back cut is also fits =
    let behind : rest ≡ skip_ows bytes = cut ∙ (ap (λ (n : ℕ). drop n bytes) is ∙ sym (skipped bytes)) in
    sym (without_last rest back fits)
    ∙ (ap (λ (n : ℕ). reverse (drop n (reverse rest))) also
    ∙ (ap reverse (sym (skipped (reverse rest))) ∙ ap (λ (those : List ℕ). reverse (skip_ows (reverse those))) behind))

-- a place that is found, or the length
pub place_or : (test : ℕ → Bool) (bytes : List ℕ) (found : Option ℕ) (long : ℕ) → found ≡ cond (ltb (position_or_len test bytes) (length bytes)) (Some (position_or_len test bytes)) None → long ≡ length bytes → unwrap_or found long ≡ position_or_len test bytes
place_or test bytes found long is all = ap (λ (place : Option ℕ). unwrap_or place long) is ∙ by_test (ltb (position_or_len test bytes) (length bytes)) refl
  where
    by_test : (inside : Bool) → ltb (position_or_len test bytes) (length bytes) ≡ inside → unwrap_or (cond inside (Some (position_or_len test bytes)) None) long ≡ position_or_len test bytes
    by_test true is_inside = refl
    by_test false at_end = omega (arith, all, ltb-false (position_or_len test bytes) (length bytes) at_end, prefix_len-le-length (λ (byte : ℕ). not (test byte)) bytes)

-- so many are no more than there are bytes
pub front_fits : (bytes : List ℕ) (n : ℕ) → n ≡ spaces bytes → n ≤ length bytes
front_fits bytes n is = omega (arith, is, spaces_fit bytes)

pub back_fits : (bytes : List ℕ) (n : ℕ) → n ≡ spaces (reverse bytes) → n ≤ length bytes
back_fits bytes n is = omega (arith, is, spaces_fit (reverse bytes), length-reverse bytes)
