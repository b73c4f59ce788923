-- Patterns that are looked for by their fingerprints.
use Rattle.std.proofs.Common.{◌≡◌, ℕ, zero, suc, ◌+◌, ◌<◌, Bool, true, false, ◌==◌, ◌&&◌, ◌||◌, inl, inr, List, [], ◌∷◌, ◌++◌, filter, get_or, length, map, take, refl, sym, ap, ◌∙◌, arith}
use Rattle.std.specs.List.{list_any}
use Rattle.std.proofs.lemmas.Bool.{and_parts, cases_Bool, cond-true, cond-false, eqb-true, false_from_ne_true}
use Rattle.std.proofs.lemmas.Bool.Decides.{nat_tests}
use Rattle.std.proofs.lemmas.List.{length-map, map-append}
use Rattle.std.proofs.lemmas.List.Elements.{filter-append}
use Rattle.match_types.specs.Fingerprint.{fingerprint_from}
use Rattle.match_types.specs.Tests.{is_same_pattern}
use Rattle.desk_types.specs.Rules.{last_passes}
use Rattle.desk_keeper.specs.OwnRows.{AreSeen}
use Rattle.desk_keeper.proofs.LastRows.{any_more, last_passes-last}

map_at : {A : Type 0} (f : A → ℕ) (xs : List A) (i : ℕ) (d : A) (e : ℕ) → i < length xs → get_or (map f xs) i e ≡ f (get_or xs i d)
map_at f [] i d e low = absurd (omega (arith, low))
map_at f (x ∷ xs) zero d e low = refl
map_at f (x ∷ xs) (suc i) d e low = map_at f xs i d e (omega (arith, low))

module _ {A : Type 0} (group : A → ℕ) (text : A → List ℕ) (row : A) where
  abbrev pub is_like : A → Bool
  is_like r = group r == group row && is_same_pattern (text r) (text row)

  abbrev pub number_of : A → ℕ
  number_of r = fingerprint_from (group r) (text r)

  -- a row that has the pattern has its fingerprint
  like_number : (wanted : ℕ) → ((other : List ℕ) → is_same_pattern other (text row) ≡ true → fingerprint_from (group row) other ≡ wanted) → (r : A) → is_like r ≡ true → number_of r ≡ wanted
  like_number wanted same r h =
      let parts = and_parts (group r == group row) (is_same_pattern (text r) (text row)) h in
      ap (λ n. fingerprint_from n (text r)) (eqb-true (group r) (group row) parts.0) ∙ same (text r) parts.1

  -- one that has another fingerprint does not
  pub unlike : (wanted : ℕ) (own : List A) (numbers : List ℕ) (i : ℕ) (d : A) → ((other : List ℕ) → is_same_pattern other (text row) ≡ true → fingerprint_from (group row) other ≡ wanted)
      → numbers ≡ map number_of own → i < length own → (get_or numbers i 0 ≡ wanted → ⊥) → is_like (get_or own i d) ≡ false
  unlike wanted own numbers i d same is low other =
      false_from_ne_true (is_like (get_or own i d)) (λ t. other (ap (λ (l : List ℕ). get_or l i 0) is ∙ map_at number_of own i d 0 low ∙ like_number wanted same (get_or own i d) t))

  -- none up to the next
  pub none_more : (own : List A) (i : ℕ) (d : A) → i < length own → list_any is_like (take i own) ≡ false → is_like (get_or own i d) ≡ false → list_any is_like (take (i + 1) own) ≡ false
  none_more own i d low none other = any_more is_like own i d low ∙ ap (λ b. b || is_like (get_or own i d)) none ∙ other

-- the fingerprints of an account's rows with one more
pub seen_more : {A : Type 0} (owner number : A → ℕ) (before : List A) (row : A) (seen : List ℕ) → seen ≡ map number (filter (λ r. owner r == owner row) before) → AreSeen owner number (before ++ row ∷ []) (seen ++ number row ∷ [])
seen_more {A} owner number before row seen is account last =
    let test : A → Bool = λ r. owner r == account in
    let t : test row ≡ true = sym (last_passes-last test before row) ∙ last in
    let here : seen ≡ map number (filter test before) = is ∙ ap (λ n. map number (filter (λ (r : A). owner r == n) before)) (eqb-true (owner row) account t) in
    ap (λ l. l ++ number row ∷ []) here
    ∙ sym (ap (map number) (filter-append test before (row ∷ [])) ∙ map-append number (filter test before) (filter test (row ∷ []))
    ∙ ap (λ (l : List A). map number (filter test before) ++ map number l) (cond-true (test row) (row ∷ []) [] t))

pub few_numbers : {A : Type 0} (number : A → ℕ) (own : List A) (numbers : List ℕ) (i : ℕ) → numbers ≡ map number own → i < length numbers → i < length own
few_numbers number own numbers i is low = omega (arith, low, ap length is, length-map own number)

-- of an account's rows
any_own : {A : Type 0} (own like : A → Bool) (rows : List A) → list_any (λ r. own r && like r) rows ≡ list_any like (filter own rows)
any_own own like [] = refl
any_own {A} own like (r ∷ rows) =
    elim (cases_Bool (own r)) [
      | inl t ↦ ap (λ b. (b && like r) || list_any (λ (s : A). own s && like s) rows) t ∙ ap (λ b. like r || b) (any_own own like rows)
          ∙ sym (ap (list_any like) (cond-true (own r) (r ∷ filter own rows) (filter own rows) t))
      | inr t ↦ ap (λ b. (b && like r) || list_any (λ (s : A). own s && like s) rows) t ∙ any_own own like rows
          ∙ sym (ap (list_any like) (cond-false (own r) (r ∷ filter own rows) (filter own rows) t))
    ]

pub repeated : {A : Type 0} (owner group : A → ℕ) (text : A → List ℕ) (row : A) (rows own : List A) → own ≡ filter (λ r. owner r == owner row) rows
    → list_any (is_like group text row) own ≡ list_any (λ r. owner r == owner row && (group r == group row && is_same_pattern (text r) (text row))) rows
repeated owner group text row rows own is = ap (list_any (is_like group text row)) is ∙ sym (any_own (λ r. owner r == owner row) (is_like group text row) rows)

pub none_repeated : {A : Type 0} (test : A → Bool) (own : List A) → length own ≡ 0 → false ≡ list_any test own
none_repeated test [] h = refl
none_repeated test (r ∷ own) h = absurd (omega (arith, h))

pub some_own : (n : ℕ) → (n == 0) ≡ false → 0 < n
some_own n h = grind (arith, nat_tests)

pub no_own : (n : ℕ) → (n == 0) ≡ true → n ≡ 0
no_own n h = grind (arith, nat_tests)

none_in : {A : Type 0} (number : A → ℕ) (own : List A) → length own ≡ 0 → [] ≡ map number own
none_in number [] h = refl
none_in number (r ∷ own) h = absurd (omega (arith, h))

-- the fingerprints where there are no rows of the account
pub none_seen : {A : Type 0} (owner number : A → ℕ) (account : ℕ) (row : A) (before own : List A) → own ≡ filter (λ r. owner r == account) before → account ≡ owner row → length own ≡ 0 → [] ≡ map number (filter (λ r. owner r == owner row) before)
none_seen {A} owner number account row before own is same none =
    none_in number own none ∙ ap (map number) (is ∙ ap (λ n. filter (λ (r : A). owner r == n) before) same)

-- and where there are some
pub some_seen : {A : Type 0} (owner number : A → ℕ) (account : ℕ) (row : A) (before : List A) (seen : List ℕ) → AreSeen owner number before seen → account ≡ owner row → last_passes (λ r. owner r == account) before ≡ true
    → seen ≡ map number (filter (λ r. owner r == owner row) before)
some_seen {A} owner number account row before seen h same last =
    h (owner row) (ap (λ n. last_passes (λ (r : A). owner r == n) before) (sym same) ∙ last)
