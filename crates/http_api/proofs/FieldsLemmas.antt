-- The fields of a head.
use Rattle.std.proofs.Common.{Bor, Result, Ok, Err, ◌==◌, ◌&&◌, ◌||◌, take_all, ◌≡◌, ℕ, ◌+◌, ◌<◌, ◌≤◌, ◌↔◌, Bool, true, false, List, [], ◌∷◌, ◌++◌, length, take, get_or, Option, Some, IfSome, refl, sym, ap, subst, ◌∙◌, option_map, append-nil, length-take-le, arith}
use Rattle.std.specs.Prelude.{codes, MatchResult, if◌then◌else◌, map, filter, slice_get, IsTrue}
use Rattle.std.specs.Char.{to_ascii_lowercase}
use Rattle.std.specs.List.{list_any}
use Rattle.std.specs.Result.{result_unwrap_or}
use Rattle.std.specs.Str.{IsUtf8, is_utf8, str_eq_ignore_ascii_case}
use Rattle.std.proofs.lemmas.Bool.{cond-true, cond-false, false_from_ne_true, ne_eqb, or_from, or_right}
use Rattle.std.proofs.lemmas.List.Folds.{list_any_at, list_any_more}
use Rattle.std.proofs.lemmas.Str.{IsUtf8-from_is_utf8, is_utf8-from_IsUtf8}
use Rattle.std.proofs.lemmas.Bool.Decides.{same_from_decides}
use Rattle.std.proofs.lemmas.List.{length-map, map-append, get_or-take}
use Rattle.std.proofs.lemmas.List.Elements.{All-get_or, filter_more}
use Rattle.std.proofs.lemmas.Option.{get_or_from_slice_get, slice_get_within, slice_get-get_or, slice_get-map}
use Rattle.std.proofs.lemmas.Slice.Eq.{bytes_eq-Decides}
use Rattle.httparse.specs.declared.spans.HeaderSpan.{HeaderSpan}
use Rattle.httparse.specs.declared.spans.RequestSpans.{RequestSpans}
use Rattle.httparse.specs.Spans.{IsHeaderWithin, IsRequestWithin, header_bytes}
use Rattle.http_api.specs.declared.head.Found.{Found}
use Rattle.http_api.specs.declared.head.Found.TheVariants.{Once, Repeated}
use Rattle.http_api.specs.Fields.{asks_to_close, has_token, values_of}
use Rattle.http_api.specs.HeadFound.{IsFound}
use Rattle.http_api.specs.HeadAt.{head_at}
use Rattle.http_api.specs.HeadValue.{HeadValue}

empty : HeaderSpan
empty = record { name = record { start = 0; end = 0 }; value = record { start = 0; end = 0 } }

wider : (m n : ℕ) (header : HeaderSpan) → m ≤ n → IsHeaderWithin m header → IsHeaderWithin n header
wider m n header le ((a, b), (c, d)) = ((a, omega arith), (c, omega arith))

-- the parts of a head, which lie in its bytes
module _ (bytes : List ℕ) (parts : RequestSpans) (fields : List HeaderSpan) (within : IsRequestWithin bytes fields parts) where
  count_is : length (head_at bytes parts fields).fields ≡ parts.headers
  count_is = length-map (take parts.headers fields) (header_bytes bytes) ∙ length-take-le parts.headers fields within.section.count_fits

  module _ (place : ℕ) (inside : place < length (head_at bytes parts fields).fields) where
    below : place < parts.headers
    below = omega (arith, count_is)

    pub is_there : place < length fields
    is_there = omega (arith, below, within.section.count_fits)

    among : place < length (take parts.headers fields)
    among = omega (arith, below, length-take-le parts.headers fields within.section.count_fits)

    lies : IsHeaderWithin (length bytes) (get_or fields place empty)
    lies = wider parts.len (length bytes) (get_or fields place empty) within.section.len_fits
        (subst (IsHeaderWithin parts.len) (get_or-take parts.headers fields place empty below)
        (All-get_or (IsHeaderWithin parts.len) (take parts.headers fields) place empty among within.section.headers_fit))

    pub lies_within : IfSome (slice_get fields place) (IsHeaderWithin (length bytes))
    lies_within = subst (λ (header : Option HeaderSpan). IfSome header (IsHeaderWithin (length bytes))) (sym (slice_get-get_or fields place empty is_there)) lies

    same_place : slice_get (take parts.headers fields) place ≡ slice_get fields place
    same_place =
        slice_get-get_or (take parts.headers fields) place empty among
        ∙ (ap Some (get_or-take parts.headers fields place empty below) ∙ sym (slice_get-get_or fields place empty is_there))

    pub field_is : slice_get (head_at bytes parts fields).fields place ≡ option_map (header_bytes bytes) (slice_get fields place)
    field_is = slice_get-map (header_bytes bytes) (take parts.headers fields) place ∙ ap (option_map (header_bytes bytes)) same_place

-- what a comparison of names says
pub same_name : (result : Bool) (a b c : List ℕ) → (IsTrue result ↔ (map to_ascii_lowercase a ≡ map to_ascii_lowercase b)) → b ≡ c → result ≡ str_eq_ignore_ascii_case a c
same_name result a b c by_case is =
    subst (λ (name : List ℕ). result ≡ str_eq_ignore_ascii_case a name) is
    (same_from_decides result (str_eq_ignore_ascii_case a b) by_case (bytes_eq-Decides (map to_ascii_lowercase a) (map to_ascii_lowercase b)))

-- the values of a name among fields
abbrev pub values_among : List ℕ → List (List ℕ × List ℕ) → List (List ℕ)
values_among name fields = map (λ field. field.1) (filter (λ field. str_eq_ignore_ascii_case field.0 name) fields)

pub values_are : (name : List ℕ) (head : HeadValue) → values_among name head.fields ≡ values_of name head
unfolding values_of
values_are name head = refl

value_of_one : (test : Bool) (field : List ℕ × List ℕ) → map (λ (one : List ℕ × List ℕ). one.1) (if test then field ∷ [] else []) ≡ (if test then field.1 ∷ [] else [])
value_of_one true field = refl
value_of_one false field = refl

-- one field more
pub values_more : (name : List ℕ) (fields : List (List ℕ × List ℕ)) (i : ℕ) (field : List ℕ × List ℕ) → slice_get fields i ≡ Some field →
    values_among name (take (i + 1) fields) ≡ values_among name (take i fields) ++ (if str_eq_ignore_ascii_case field.0 name then field.1 ∷ [] else [])
values_more name fields i field is =
    let named = λ (one : List ℕ × List ℕ). str_eq_ignore_ascii_case one.0 name in
    let value = λ (one : List ℕ × List ℕ). one.1 in
    let here : get_or fields i field ≡ field = get_or_from_slice_get fields i field field is in
    let more = filter_more named fields i field (slice_get_within fields i field is) in
    ap (map value) (more ∙ ap (λ (one : List ℕ × List ℕ). filter named (take i fields) ++ (if named one then one ∷ [] else [])) here)
    ∙ (map-append value (filter named (take i fields)) (if named field then field ∷ [] else [])
    ∙ ap (λ (last : List (List ℕ)). values_among name (take i fields) ++ last) (value_of_one (named field) field))

-- a value behind others
pub twice : (values : List (List ℕ)) (first value : List ℕ) → values ≡ first ∷ [] → (other : List ℕ) × (more : List (List ℕ)) × (values ++ value ∷ [] ≡ first ∷ other ∷ more)
twice values first value is = (value, [], ap (λ (front : List (List ℕ)). front ++ value ∷ []) is)

pub again : (values : List (List ℕ)) (first value : List ℕ) → (other : List ℕ) × (more : List (List ℕ)) × (values ≡ first ∷ other ∷ more)
    → (other : List ℕ) × (more : List (List ℕ)) × (values ++ value ∷ [] ≡ first ∷ other ∷ more)
again values first value (other, more, is) = (other, more ++ value ∷ [], ap (λ (front : List (List ℕ)). front ++ value ∷ []) is)

-- what is found, by what was found
pub found_twice : (values : List (List ℕ)) (found : Found) (first value : Bor (List ℕ)) → found ≡ Once first → IsFound values found → (other : List ℕ) × (more : List (List ℕ)) × (values ++ value.now ∷ [] ≡ first.now ∷ other ∷ more)
found_twice values found first value is given = twice values first.now value.now (subst (IsFound values) is given)

pub found_again : (values : List (List ℕ)) (found : Found) (first value : Bor (List ℕ)) → found ≡ Repeated first → IsFound values found → IsFound (values ++ value.now ∷ []) found
found_again values found first value is given =
    subst (IsFound (values ++ value.now ∷ [])) (sym is) (again values first.now value.now (subst (IsFound values) is given))

-- what is found with a field that has the name, or has not
pub found_with : (test : Bool) (values : List (List ℕ)) (value : List ℕ) (found : Found) → true ≡ test → IsFound (values ++ value ∷ []) found → IsFound (values ++ (if test then value ∷ [] else [])) found
found_with true values value found is given = given
found_with false values value found is given = absurd (cc)

pub found_without : (test : Bool) (values : List (List ℕ)) (value : List ℕ) (found : Found) → false ≡ test → IsFound values found → IsFound (values ++ (if test then value ∷ [] else [])) found
found_without true values value found is given = absurd (cc)
found_without false values value found is given = subst (λ (those : List (List ℕ)). IsFound those found) (sym (append-nil values)) given

-- the text of a value, or none where it is not UTF-8
pub text_or : {E : Type 0} (result : Result (Bor (List ℕ)) E) (default : Bor (List ℕ)) (bytes : List ℕ) (Fault : E → Type 0) →
    MatchResult result (λ text. (text.now ≡ bytes) × IsUtf8 bytes) (λ error. (IsUtf8 bytes → ⊥) × Fault error) → default.now ≡ [] →
    (result_unwrap_or result default).now ≡ (if is_utf8 bytes then bytes else [])
text_or (Ok text) default bytes Fault is none = is.0 ∙ sym (cond-true (is_utf8 bytes) bytes [] (is_utf8-from_IsUtf8 bytes is.1))
text_or (Err error) default bytes Fault is none = none ∙ sym (cond-false (is_utf8 bytes) bytes [] (false_from_ne_true (is_utf8 bytes) (λ text. is.0 (IsUtf8-from_is_utf8 bytes text))))

-- a test of the values of a name
pub any_among : (test : List ℕ → Bool) (name : List ℕ) (fields : List (List ℕ × List ℕ)) → list_any test (values_among name fields) ≡ list_any (λ field. str_eq_ignore_ascii_case field.0 name && test field.1) fields
any_among test name [] = refl
any_among test name (field ∷ more) = by_test (any_among test name more) (str_eq_ignore_ascii_case field.0 name) refl
  where
    by_test : list_any test (values_among name more) ≡ list_any (λ field. str_eq_ignore_ascii_case field.0 name && test field.1) more → (named : Bool) → str_eq_ignore_ascii_case field.0 name ≡ named →
        list_any test (values_among name (field ∷ more)) ≡ list_any (λ field. str_eq_ignore_ascii_case field.0 name && test field.1) (field ∷ more)
    by_test rest true is = rw is (ap (λ (later : Bool). test field.1 || later) rest)
    by_test rest false is = rw is rest

-- whether a field asks to close
abbrev pub is_close : List ℕ × List ℕ → Bool
is_close field = str_eq_ignore_ascii_case field.0 (codes "connection") && has_token (codes "close") field.1

module _ (head : HeadValue) where
  by_fields : list_any (has_token (codes "close")) (values_of (codes "connection") head) ≡ list_any is_close head.fields
  by_fields = ap (list_any (has_token (codes "close"))) (sym (values_are (codes "connection") head)) ∙ any_among (has_token (codes "close")) (codes "connection") head.fields

  module _ (place : ℕ) (field : List ℕ × List ℕ) (is : slice_get head.fields place ≡ Some field) where
    inside : place < length head.fields
    inside = slice_get_within head.fields place field is

    here : get_or head.fields place field ≡ field
    here = get_or_from_slice_get head.fields place field field is

    pub closes_here : true ≡ is_close field → true ≡ asks_to_close head
    closes_here holds = sym (or_right (head.minor == 0) _ (by_fields ∙ list_any_at is_close head.fields place field inside (ap is_close here ∙ sym holds)))

    pub stays_open : list_any is_close (take place head.fields) ≡ false → false ≡ is_close field → list_any is_close (take (place + 1) head.fields) ≡ false
    stays_open before fails = list_any_more is_close head.fields place field inside ∙ or_from _ _ before (ap is_close here ∙ sym fails)

  pub open_to_end : (count : ℕ) → length head.fields ≤ count → (head.minor ≡ 0 → ⊥) → list_any is_close (take count head.fields) ≡ false → false ≡ asks_to_close head
  open_to_end count all newer none =
      sym (or_from (head.minor == 0) _ (ne_eqb head.minor 0 newer) (by_fields ∙ (ap (list_any is_close) (sym (take_all count head.fields all)) ∙ none)))
