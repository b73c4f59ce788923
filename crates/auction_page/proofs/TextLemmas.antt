-- Bytes that spell a heading or an ad are text.
use Rattle.std.proofs.Common.{◌≡◌, ◌≢◌, ℕ, List, [], ◌∷◌, length, refl, sym, subst, arith, Bool, true, inl, inr}
use Rattle.std.specs.Prelude.{Option, Some, None, codes, bytes_eq, ◌==◌, nat_lt, filter}
use Rattle.std.specs.Bool.{Decides}
use Rattle.std.specs.List.{AllByRecursion as All, list_all, slice_split, join_with_byte}
use Rattle.std.specs.Str.{IsAscii, IsUtf8}
use Rattle.std.proofs.lemmas.Bool.{cases_Bool, cond-true, lt-ltb}
use Rattle.std.proofs.lemmas.List.Splits.{join_with_byte-slice_split}
use Rattle.std.proofs.lemmas.Slice.Eq.{bytes_eq-Decides}
use Rattle.std.proofs.lemmas.Str.{IsUtf8-append, IsUtf8-nil, IsUtf8-from_ascii}
use Rattle.std.proofs.lemmas.Str.Ascii.{IsAscii-nil, IsAscii-cons}
use Rattle.std.proofs.lemmas.Bool.Decides.{nat_tests}
use Rattle.std.proofs.lemmas.Grind.{common_steps}
use Rattle.auction_types.specs.declared.limits.TheConstants.{BID_MIN, BID_MAX, QUALITY_MIN, QUALITY_MAX, FLOOR_MAX, PLACES_MAX}
use Rattle.desk_io.proofs.NumberLemmas.{numeral-IsUtf8}
use Rattle.script_api.specs.LineFields.{fields}
use Rattle.desk_io.specs.Number.{is_numeral, number_within}
use Rattle.auction_page.specs.declared.limits.TheConstants.{NUMBER_MAX, FREE_MAX}
use Rattle.auction_page.specs.declared.form.LineName.{LineName}
use Rattle.auction_page.specs.Form.{parts, heading_from, heading_of_fields, heading_in, name_from, name_of_parts, name_in, ad_from, ad_of_fields, ad_in, has_outer_space}

none_from : {A : Type 0} (spelled : Option A) → ¬ (spelled ≢ None) → spelled ≡ None
none_from None h = refl
none_from (Some x) h = absurd (h (λ e. cc))

abbrev is_small : ℕ → Bool
is_small byte = nat_lt byte 128

ascii : (bytes : List ℕ) → list_all is_small bytes ≡ true → IsAscii bytes
ascii [] h = IsAscii-nil
ascii (byte ∷ more) h = IsAscii-cons byte more (grind (arith, nat_tests)) (ascii more (grind (arith, common_steps)))

ascii_text : (bytes : List ℕ) → list_all is_small bytes ≡ true → IsUtf8 bytes
ascii_text bytes h = IsUtf8-from_ascii bytes (ascii bytes h)

-- texts, joined by a byte that is text by itself
joined : (byte : ℕ) (texts : List (List ℕ)) → IsUtf8 (byte ∷ []) → All IsUtf8 texts → IsUtf8 (join_with_byte byte texts)
joined byte [] one each = IsUtf8-nil
joined byte (text ∷ []) one each = each.0
joined byte (text ∷ next ∷ more) one each =
    IsUtf8-append text (byte ∷ join_with_byte byte (next ∷ more)) each.0 (IsUtf8-append (byte ∷ []) (join_with_byte byte (next ∷ more)) one (joined byte (next ∷ more) one each.1))

abbrev has_bytes : List ℕ → Bool
has_bytes field = nat_lt 0 (length field)

-- an empty piece is text
with_empty : (pieces : List (List ℕ)) → All IsUtf8 (filter has_bytes pieces) → All IsUtf8 pieces
with_empty [] each = tt
with_empty ([] ∷ more) each = (IsUtf8-nil, with_empty more each)
with_empty ((byte ∷ piece) ∷ more) each =
    let is : filter has_bytes ((byte ∷ piece) ∷ more) ≡ (byte ∷ piece) ∷ filter has_bytes more = cond-true (has_bytes (byte ∷ piece)) _ _ (lt-ltb 0 (length (byte ∷ piece)) (omega arith)) in
    let both : All IsUtf8 ((byte ∷ piece) ∷ filter has_bytes more) = subst (All IsUtf8) is each in
    (both.0, with_empty more both.1)

fields_text : (line : List ℕ) → All IsUtf8 (fields line) → IsUtf8 line
unfolding fields
fields_text line each =
    let pieces : List (List ℕ) = slice_split (λ byte. byte == 32) line in
    subst IsUtf8 (join_with_byte-slice_split 32 line) (joined 32 pieces (ascii_text (32 ∷ []) refl) (with_empty pieces each))

parts_text : (text : List ℕ) → All IsUtf8 (parts text) → IsUtf8 text
unfolding parts
parts_text text each =
    subst IsUtf8 (join_with_byte-slice_split 46 text) (joined 46 (slice_split (λ byte. byte == 46) text) (ascii_text (46 ∷ []) refl) each)

number_text : (least most : ℕ) (text : List ℕ) → number_within least most text ≢ None → IsUtf8 text
unfolding number_within
number_text least most text spelled = elim (cases_Bool (is_numeral text)) [
  | inl is ↦ numeral-IsUtf8 text is
  | inr other ↦ absurd (spelled (rw other refl))
]

word_text : (word other : List ℕ) → IsUtf8 other → bytes_eq word other ≡ true → IsUtf8 word
word_text word other text is =
    let tells : Decides (bytes_eq word other) (word ≡ other) = bytes_eq-Decides word other in
    subst IsUtf8 (sym (tells.0 is)) text

heading_spelled : (reserve floor places : Option ℕ) → heading_from reserve floor places ≢ None → (reserve ≢ None) × (floor ≢ None) × (places ≢ None)
heading_spelled (Some r) (Some f) (Some p) h = (λ e. cc, λ e. cc, λ e. cc)
heading_spelled _ _ _ h = absurd (h refl)

heading_fields : (fields : List (List ℕ)) → heading_of_fields fields ≢ None → All IsUtf8 fields
heading_fields (word ∷ reserve ∷ floor ∷ places ∷ []) h = elim (cases_Bool (bytes_eq word (codes "auction"))) [
  | inl is ↦
      let spelled = heading_spelled (number_within BID_MIN BID_MAX reserve) (number_within 0 FLOOR_MAX floor) (number_within 1 PLACES_MAX places) (λ e. h (rw is e)) in
      (word_text word (codes "auction") (ascii_text (codes "auction") refl) is, (number_text _ _ reserve spelled.0, (number_text _ _ floor spelled.1, (number_text _ _ places spelled.2, tt))))
  | inr other ↦ absurd (h (rw other refl))
]
heading_fields _ h = absurd (h refl)

name_spelled : (account campaign line : Option ℕ) → name_from account campaign line ≢ None → (account ≢ None) × (campaign ≢ None) × (line ≢ None)
name_spelled (Some a) (Some c) (Some l) h = (λ e. cc, λ e. cc, λ e. cc)
name_spelled _ _ _ h = absurd (h refl)

name_parts : (parts : List (List ℕ)) → name_of_parts parts ≢ None → All IsUtf8 parts
name_parts (account ∷ campaign ∷ line ∷ []) h =
    let spelled = name_spelled (number_within 1 NUMBER_MAX account) (number_within 1 NUMBER_MAX campaign) (number_within 1 NUMBER_MAX line) h in
    (number_text _ _ account spelled.0, (number_text _ _ campaign spelled.1, (number_text _ _ line spelled.2, tt)))
name_parts _ h = absurd (h refl)

name_text : (text : List ℕ) → name_in text ≢ None → IsUtf8 text
unfolding name_in
name_text text h = parts_text text (name_parts (parts text) h)

ad_spelled : (name : Option LineName) (bid quality free : Option ℕ) → ad_from name bid quality free ≢ None →
    (name ≢ None) × (bid ≢ None) × (quality ≢ None) × (free ≢ None)
ad_spelled (Some n) (Some b) (Some q) (Some f) h = (λ e. cc, λ e. cc, λ e. cc, λ e. cc)
ad_spelled _ _ _ _ h = absurd (h refl)

ad_fields : (fields : List (List ℕ)) → ad_of_fields fields ≢ None → All IsUtf8 fields
ad_fields (word ∷ name ∷ bid ∷ quality ∷ free ∷ []) h = elim (cases_Bool (bytes_eq word (codes "ad"))) [
  | inl is ↦
      let spelled = ad_spelled (name_in name) (number_within BID_MIN BID_MAX bid) (number_within QUALITY_MIN QUALITY_MAX quality) (number_within 0 FREE_MAX free) (λ e. h (rw is e)) in
      (word_text word (codes "ad") (ascii_text (codes "ad") refl) is, (name_text name spelled.0, (number_text _ _ bid spelled.1, (number_text _ _ quality spelled.2, (number_text _ _ free spelled.3, tt)))))
  | inr other ↦ absurd (h (rw other refl))
]
ad_fields _ h = absurd (h refl)

pub heading_of_no_text : (line : List ℕ) → ¬ (IsUtf8 line) → heading_in line ≡ None
unfolding heading_in
heading_of_no_text line other = elim (cases_Bool (has_outer_space line)) [
  | inl is ↦ rw is refl
  | inr none ↦ rw none (none_from (heading_of_fields (fields line)) (λ spelled. other (fields_text line (heading_fields (fields line) spelled))))
]

pub ad_of_no_text : (line : List ℕ) → ¬ (IsUtf8 line) → ad_in line ≡ None
unfolding ad_in
ad_of_no_text line other = elim (cases_Bool (has_outer_space line)) [
  | inl is ↦ rw is refl
  | inr none ↦ rw none (none_from (ad_of_fields (fields line)) (λ spelled. other (fields_text line (ad_fields (fields line) spelled))))
]
