-- The fields of a record, and the row or the heading that they are.
use Rattle.std.proofs.Common.{◌≡◌, ℕ, ◌<◌, Bool, true, false, List, [], ◌∷◌, length, get_or, Some, None, inl, inr, refl, sym, ap, ◌∙◌, arith}
use Rattle.std.specs.Prelude.{Option, IfNone, codes, bytes_eq, nat_lt}
use Rattle.std.specs.Bool.{Decides}
use Rattle.std.specs.List.{list_all}
use Rattle.std.specs.Str.{IsAscii, IsUtf8, is_utf8}
use Rattle.std.proofs.lemmas.Bool.{cases_Bool}
use Rattle.std.proofs.lemmas.Slice.Eq.{bytes_eq-Decides}
use Rattle.std.proofs.lemmas.Str.{IsUtf8-from_ascii, IsUtf8-from_is_utf8, is_utf8-from_IsUtf8}
use Rattle.std.proofs.lemmas.Str.Ascii.{IsAscii-nil, IsAscii-cons}
use Rattle.std.proofs.lemmas.Bool.Decides.{nat_tests}
use Rattle.std.proofs.lemmas.Grind.{common_steps}
use Rattle.csv.specs.Records.{field_at}
use Rattle.csv.proofs.RecordFacts.{field-get, field-there}
use Rattle.desk_io.specs.Number.{number}
use Rattle.csv_import.specs.ImportFile.{fields_eq, heading, row_from, row_of, row_of_five}

pub if_none : {A : Type 0} (found : Option A) (P : Type 0) → P → IfNone found P
if_none None P holds = holds
if_none (Some value) P holds = tt

no_text : (bytes : List ℕ) → ¬ (IsUtf8 bytes) → is_utf8 bytes ≡ false
no_text bytes none = elim (cases_Bool (is_utf8 bytes)) [
  | inl is ↦ absurd (none (IsUtf8-from_is_utf8 bytes is))
  | inr other ↦ other
]

pub field_none : (fields : List (List ℕ)) (i : ℕ) → None ≡ field_at fields i → i < length fields → is_utf8 (get_or fields i []) ≡ false
field_none fields i none inside = absurd (field-there fields i inside (sym none))

pub field_text : (fields : List (List ℕ)) (i : ℕ) (bytes text : List ℕ) → Some bytes ≡ field_at fields i → text ≡ bytes → IsUtf8 bytes → (field_at fields i ≡ Some text) × (is_utf8 text ≡ true)
field_text fields i bytes text there same utf8 = (sym there ∙ ap Some (sym same), rw same (is_utf8-from_IsUtf8 bytes utf8))

pub field_no_text : (fields : List (List ℕ)) (i : ℕ) (bytes : List ℕ) → Some bytes ≡ field_at fields i → ¬ (IsUtf8 bytes) → is_utf8 (get_or fields i []) ≡ false
field_no_text fields i bytes there none = rw (field-get fields i bytes (sym there)) (no_text bytes none)

-- five fields are those at the first five places
pub five_fields : (fields : List (List ℕ)) (a b c d e : List ℕ) → length fields ≡ 5 → field_at fields 0 ≡ Some a → field_at fields 1 ≡ Some b → field_at fields 2 ≡ Some c → field_at fields 3 ≡ Some d → field_at fields 4 ≡ Some e
    → fields ≡ a ∷ b ∷ c ∷ d ∷ e ∷ []
unfolding field_at
five_fields [] a b c d e n p q r s t = absurd (omega arith)
five_fields (v ∷ []) a b c d e n p q r s t = absurd (omega arith)
five_fields (v ∷ w ∷ []) a b c d e n p q r s t = absurd (omega arith)
five_fields (v ∷ w ∷ x ∷ []) a b c d e n p q r s t = absurd (omega arith)
five_fields (v ∷ w ∷ x ∷ y ∷ []) a b c d e n p q r s t = absurd (omega arith)
five_fields (v ∷ w ∷ x ∷ y ∷ z ∷ []) a b c d e n p q r s t = cc
five_fields (v ∷ w ∷ x ∷ y ∷ z ∷ more ∷ rest) a b c d e n p q r s t = absurd (omega arith)

pub five_texts : (fields : List (List ℕ)) (a b c d e : List ℕ) → fields ≡ a ∷ b ∷ c ∷ d ∷ e ∷ [] → is_utf8 a ≡ true → is_utf8 b ≡ true → is_utf8 c ≡ true → is_utf8 d ≡ true → is_utf8 e ≡ true → list_all is_utf8 fields ≡ true
five_texts fields a b c d e are p q r s t = rw are (rw (p, q, r, s, t) refl)

row_of_others : (fields : List (List ℕ)) → ¬ (length fields ≡ 5) → row_of_five fields ≡ None
row_of_others [] n = refl
row_of_others (v ∷ []) n = refl
row_of_others (v ∷ w ∷ []) n = refl
row_of_others (v ∷ w ∷ x ∷ []) n = refl
row_of_others (v ∷ w ∷ x ∷ y ∷ []) n = refl
row_of_others (v ∷ w ∷ x ∷ y ∷ z ∷ []) n = absurd (n refl)
row_of_others (v ∷ w ∷ x ∷ y ∷ z ∷ more ∷ rest) n = refl

-- a record that has not five fields, or one that is no text, is no row
pub no_row : (fields : List (List ℕ)) → (length fields ≡ 5 → list_all is_utf8 fields ≡ false) → row_of fields ≡ None
unfolding row_of
no_row fields none = elim (cases_Bool (list_all is_utf8 fields)) [
  | inl are ↦ rw are (row_of_others fields (λ five. let other : list_all is_utf8 fields ≡ false = none five in cc))
  | inr other ↦ rw other refl
]

pub row_spelled : (fields : List (List ℕ)) (a b c d e : List ℕ) → fields ≡ a ∷ b ∷ c ∷ d ∷ e ∷ [] → list_all is_utf8 fields ≡ true → row_of fields ≡ row_from (number a) (number b) c d e
unfolding row_of
row_spelled fields a b c d e are texts = rw texts (rw are refl)

no_first : (bid : Option ℕ) (c d e : List ℕ) → row_from None bid c d e ≡ None
no_first bid c d e = refl

pub no_campaign : (fields : List (List ℕ)) (a b c d e : List ℕ) → fields ≡ a ∷ b ∷ c ∷ d ∷ e ∷ [] → list_all is_utf8 fields ≡ true → None ≡ number a → None ≡ row_of fields
no_campaign fields a b c d e are texts none = sym (row_spelled fields a b c d e are texts ∙ rw (sym none) (no_first (number b) c d e))

pub no_bid : (fields : List (List ℕ)) (a b c d e : List ℕ) (campaign : ℕ) → fields ≡ a ∷ b ∷ c ∷ d ∷ e ∷ [] → list_all is_utf8 fields ≡ true → Some campaign ≡ number a → None ≡ number b → None ≡ row_of fields
no_bid fields a b c d e campaign are texts is none = sym (row_spelled fields a b c d e are texts ∙ rw (sym is, sym none) refl)

pub row_told : (fields : List (List ℕ)) (a b c d e : List ℕ) (campaign bid : ℕ) → fields ≡ a ∷ b ∷ c ∷ d ∷ e ∷ [] → list_all is_utf8 fields ≡ true → Some campaign ≡ number a → Some bid ≡ number b
    → Some (record { campaign = campaign; bid = bid; pattern = c; headline = d; link = e }) ≡ row_of fields
row_told fields a b c d e campaign bid are texts is also = sym (row_spelled fields a b c d e are texts ∙ rw (sym is, sym also) refl)

fields_same : (fields others : List (List ℕ)) → fields_eq fields others ≡ true → fields ≡ others
fields_same [] [] is = refl
fields_same [] (other ∷ others) is = absurd (cc)
fields_same (first ∷ more) [] is = absurd (cc)
fields_same (first ∷ more) (other ∷ others) is = elim (cases_Bool (bytes_eq first other)) [
  | inl same ↦
      let rest : fields_eq more others ≡ true = rw same at is in
      let tells : Decides (bytes_eq first other) (first ≡ other) = bytes_eq-Decides first other in
      let one : first ≡ other = tells.0 same in
      let all : more ≡ others = fields_same more others rest in
      cc
  | inr not ↦ let never : false ≡ true = rw not at is in absurd (cc)
]

abbrev is_small : ℕ → Bool
is_small byte = nat_lt byte 128

ascii : (bytes : List ℕ) → list_all is_small bytes ≡ true → IsAscii bytes
ascii [] h = IsAscii-nil
ascii (byte ∷ more) h = IsAscii-cons byte more (grind (arith, nat_tests)) (ascii more (grind (arith, common_steps)))

ascii_text : (bytes : List ℕ) → list_all is_small bytes ≡ true → is_utf8 bytes ≡ true
ascii_text bytes h = is_utf8-from_IsUtf8 bytes (IsUtf8-from_ascii bytes (ascii bytes h))

heading_utf8 : list_all is_utf8 heading ≡ true
heading_utf8 =
    five_texts heading (codes "campaign") (codes "bid") (codes "pattern") (codes "headline") (codes "link") refl (ascii_text (codes "campaign") refl)
    (ascii_text (codes "bid") refl) (ascii_text (codes "pattern") refl) (ascii_text (codes "headline") refl) (ascii_text (codes "link") refl)

pub no_heading : (fields : List (List ℕ)) → (length fields ≡ 5 → list_all is_utf8 fields ≡ false) → false ≡ fields_eq fields heading
no_heading fields none = elim (cases_Bool (fields_eq fields heading)) [
  | inl is ↦
      let same : fields ≡ heading = fields_same fields heading is in
      let five : length fields ≡ 5 = rw same refl in
      let texts : list_all is_utf8 fields ≡ true = rw same heading_utf8 in
      let other : list_all is_utf8 fields ≡ false = none five in
      absurd (cc)
  | inr other ↦ sym other
]
