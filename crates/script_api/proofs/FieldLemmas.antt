-- Fields, cut off one after another.
use Rattle.std.proofs.Common.{◌≡◌, ◌≢◌, ℕ, ◌<◌, ◌≤◌, ◌+◌, ◌-◌, List, [], ◌∷◌, length, take, drop, get_or, refl, sym, ◌∙◌, ap, arith, Bool, false, inl, inr, Some, None}
use Rattle.std.specs.Prelude.{◌==◌, nat_lt, filter, slice_index, slice_range}
use Rattle.std.specs.List.{slice_split, position_or_len, before_first, after_first, All}
use Rattle.std.specs.Str.{IsUtf8, IsCharBoundary}
use Rattle.std.proofs.lemmas.Str.{IsCharBoundary-after_ascii}
use Rattle.std.proofs.lemmas.Bool.{cases_lt, cases_eq, eqb-true, lt-ltb, cond-true, false_from_ne_true}
use Rattle.std.proofs.lemmas.List.{length-take-le, drop_all}
use Rattle.std.proofs.lemmas.List.Elements.{All-from_get_or}
use Rattle.std.proofs.lemmas.List.Splits.{slice_split_first, slice_split_none}
use Rattle.std.proofs.lemmas.List.Sums.{fails_before_first, passes_at_first, position_or_len_is}
use Rattle.memchr.specs.Find.{IsFirstByte, is_byte}
use Rattle.script_api.specs.LineFields.{fields, unspaced, behind_first}
use Rattle.script_api.proofs.SpaceLemmas.{unspaced-space, unspaced-other, unspaced-nil}

abbrev is_space : ℕ → Bool
is_space byte = byte == 32

abbrev has_bytes : List ℕ → Bool
has_bytes field = nat_lt 0 (length field)

fields_of_space : (more : List ℕ) → fields (32 ∷ more) ≡ fields more
unfolding fields
fields_of_space more = refl

pub fields_of_none : fields [] ≡ []
unfolding fields
fields_of_none = refl

kept : (field : List ℕ) (rest : List (List ℕ)) → 0 < length field → filter has_bytes (field ∷ rest) ≡ field ∷ filter has_bytes rest
kept field rest h = cond-true (has_bytes field) _ _ (lt-ltb 0 (length field) h)

none_before : (p : ℕ → Bool) (text : List ℕ) → length text ≤ position_or_len p text → All (λ x. p x ≡ false) text
none_before p text h = All-from_get_or (λ x. p x ≡ false) text 0 (λ i in_text. fails_before_first p text i 0 (omega arith))

of_empty : (text : List ℕ) → length text ≡ 0 → fields text ≡ []
of_empty [] none = fields_of_none
of_empty (byte ∷ more) none = absurd (omega arith)

-- a space in front parts nothing
pub fields-unspaced : (text : List ℕ) → fields (unspaced text) ≡ fields text
fields-unspaced [] = ap fields unspaced-nil
fields-unspaced (byte ∷ more) = elim (cases_eq byte 32) [
  | inl is ↦ ap (λ b. fields (unspaced (b ∷ more))) is ∙ (ap fields (unspaced-space more) ∙ (fields-unspaced more ∙ (sym (fields_of_space more) ∙ ap (λ b. fields (b ∷ more)) (sym is))))
  | inr other ↦ ap fields (unspaced-other byte more other)
]

unspaced-begins : (text : List ℕ) → slice_index (unspaced text) 0 ≢ 32
unspaced-begins [] = λ e. let none : slice_index (unspaced []) 0 ≡ 0 = rw unspaced-nil refl in absurd (omega (arith, e, none))
unspaced-begins (byte ∷ more) = elim (cases_eq byte 32) [
  | inl is ↦ rw (is, unspaced-space more) (unspaced-begins more)
  | inr other ↦ rw (unspaced-other byte more other) other
]

-- where the first byte is no space, the first field goes up to the first space
first_of_some : (text : List ℕ) → position_or_len is_space text < length text → 0 < position_or_len is_space text →
    fields text ≡ before_first is_space text ∷ fields (after_first is_space text)
unfolding fields
first_of_some text h p =
    let n : ℕ = position_or_len is_space text in
    let within : n ≤ length text = omega arith in
    let long : 0 < length (take n text) = rw length-take-le p in
    ap (filter has_bytes) (slice_split_first is_space text 0 h) ∙ kept (take n text) (slice_split is_space (drop (n + 1) text)) long

position-of_space : (text : List ℕ) → slice_index text 0 ≢ 32 → position_or_len is_space text < length text → 0 < position_or_len is_space text
position-of_space text first h =
    let n : ℕ = position_or_len is_space text in
    elim (cases_lt 0 n) [
      | inl p ↦ p
      | inr z ↦ absurd (first (let at_first : get_or text n 0 ≡ 32 = eqb-true _ _ (passes_at_first is_space text 0 h) in
          let is_zero : n ≡ 0 = omega arith in rw is_zero at at_first))
    ]

-- the first field of a text with a space behind it
pub first-cut : (text : List ℕ) → position_or_len is_space (unspaced text) < length (unspaced text) →
    fields text ≡ before_first is_space (unspaced text) ∷ fields (after_first is_space (unspaced text))
first-cut text h = sym (fields-unspaced text) ∙ first_of_some (unspaced text) h (position-of_space (unspaced text) (unspaced-begins text) h)

-- the only field of a text
pub first-last : (text : List ℕ) → position_or_len is_space (unspaced text) ≡ length (unspaced text) → 0 < length (unspaced text) →
    fields text ≡ unspaced text ∷ fields []
unfolding fields
first-last text h long =
    sym (fields-unspaced text) ∙ (ap (filter has_bytes) (slice_split_none is_space (unspaced text) (none_before is_space (unspaced text) (omega (arith, h)))) ∙ kept (unspaced text) [] long)

pub behind-last : (text : List ℕ) → position_or_len is_space (unspaced text) ≡ length (unspaced text) → behind_first text ≡ []
unfolding behind_first
behind-last text h = drop_all (position_or_len is_space (unspaced text) + 1) (unspaced text) (omega (arith, h))

pub behind-cut : (text : List ℕ) → behind_first text ≡ after_first is_space (unspaced text)
unfolding behind_first
behind-cut text = refl

pub fields-no_text : (text : List ℕ) → length (unspaced text) ≡ 0 → fields text ≡ []
fields-no_text text none = sym (fields-unspaced text) ∙ of_empty (unspaced text) none

-- where the first space of a text stands
pub space_found : (text : List ℕ) (place : ℕ) → IsFirstByte (is_byte 32) text (Some place) → position_or_len is_space text ≡ place
space_found text place found =
    let below = found.0 in
    position_or_len_is is_space text place 0 (omega (arith, below.high))
    (λ k before. false_from_ne_true (is_space (get_or text k 0)) (λ is. below.before k (omega arith) before is))
    (λ inside. found.1)

pub space_none : (text : List ℕ) → IsFirstByte (is_byte 32) text None → position_or_len is_space text ≡ length text
space_none text none =
    position_or_len_is is_space text (length text) 0 (omega arith)
    (λ k before. false_from_ne_true (is_space (get_or text k 0)) (λ is. none k (omega arith) before is))
    (λ inside. absurd (omega arith))

-- the first field, cut off what begins with it
module _ (text u : List ℕ) (is : u ≡ unspaced text) where
  pub cut_some : (a b : List ℕ) (place : ℕ) → IsFirstByte (is_byte 32) u (Some place) → a ≡ slice_range u 0 place → b ≡ drop (place + 1) u →
      (fields text ≡ a ∷ fields b) × (b ≡ behind_first text)
  cut_some a b place found front back =
      let at : position_or_len is_space u ≡ place = space_found u place found in
      let within : position_or_len is_space u < length u = omega (arith, at, found.0.high) in
      let whole : place - 0 ≡ place = omega arith in
      rw (front, whole, back, ← at, is) (first-cut text (rw is at within), sym (behind-cut text))

  pub cut_none : IsFirstByte (is_byte 32) u None → 0 < length u → (fields text ≡ u ∷ fields []) × ([] ≡ behind_first text)
  cut_none none long =
      let at : position_or_len is_space u ≡ length u = space_none u none in
      rw is (first-last text (rw is at at) (rw is at long), sym (behind-last text (rw is at at)))

-- a text goes on behind a space
pub behind_space : (text : List ℕ) (place : ℕ) → IsUtf8 text → IsFirstByte (is_byte 32) text (Some place) → IsCharBoundary text (place + 1)
behind_space text place utf8 found =
    let is : get_or text place 0 ≡ 32 = eqb-true _ _ found.1 in
    IsCharBoundary-after_ascii text place utf8 found.0.high (omega (arith, is))
