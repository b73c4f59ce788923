-- Parts, cut off one after another.
use Rattle.std.proofs.Common.{◌≡◌, ℕ, ◌+◌, ◌-◌, ◌<◌, List, [], ◌∷◌, length, drop, get_or, Some, None, arith, Bool, false}
use Rattle.std.specs.Prelude.{◌==◌, slice_range}
use Rattle.std.specs.List.{position_or_len}
use Rattle.std.specs.Str.{IsUtf8, IsCharBoundary}
use Rattle.std.proofs.lemmas.Bool.{eqb-true, false_from_ne_true}
use Rattle.std.proofs.lemmas.List.Elements.{All-from_get_or}
use Rattle.std.proofs.lemmas.List.Splits.{length-slice_split, slice_split_first, slice_split_none}
use Rattle.std.proofs.lemmas.List.Sums.{position_or_len_is}
use Rattle.std.proofs.lemmas.Str.{IsCharBoundary-after_ascii}
use Rattle.memchr.specs.Find.{IsFirstByte, is_byte}
use Rattle.auction_page.specs.Form.{parts}

abbrev is_dot : ℕ → Bool
is_dot byte = byte == 46

pub parts_none : (text : List ℕ) → IsFirstByte (is_byte 46) text None → parts text ≡ text ∷ []
unfolding parts
parts_none text none =
    slice_split_none is_dot text (All-from_get_or (λ x. is_dot x ≡ false) text 0 (λ k inside. false_from_ne_true (is_dot (get_or text k 0)) (λ is. none k (omega arith) inside is)))

pub parts_first : (text front back : List ℕ) (place : ℕ) → IsFirstByte (is_byte 46) text (Some place) → front ≡ slice_range text 0 place → back ≡ drop (place + 1) text →
    parts text ≡ front ∷ parts back
unfolding parts
parts_first text front back place found before after =
    let below = found.0 in
    let at : position_or_len is_dot text ≡ place =
    position_or_len_is is_dot text place 0 (omega (arith, below.high)) (λ k h. false_from_ne_true (is_dot (get_or text k 0)) (λ is. below.before k (omega arith) h is)) (λ inside. found.1) in
    let within : position_or_len is_dot text < length text = omega (arith, at, below.high) in
    let whole : place - 0 ≡ place = omega arith in
    rw (before, whole, after, ← at) (slice_split_first is_dot text 0 within)

pub parts_some : (text : List ℕ) → 0 < length (parts text)
unfolding parts
parts_some text = omega (arith, length-slice_split is_dot text)

-- a text goes on behind a dot
pub behind_dot : (text : List ℕ) (place : ℕ) → IsUtf8 text → IsFirstByte (is_byte 46) text (Some place) → IsCharBoundary text (place + 1)
behind_dot text place utf8 found =
    let is : get_or text place 0 ≡ 46 = eqb-true _ _ found.1 in
    IsCharBoundary-after_ascii text place utf8 found.0.high (omega (arith, is))
