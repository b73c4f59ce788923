-- Rows that are put by their keys: what holds of each two of them, and what is among them.
use Rattle.std.proofs.Common.{◌≡◌, ℕ, zero, suc, ◌+◌, ◌≤◌, ◌<◌, Bool, true, false, ◌==◌, ◌&&◌, ◌||◌, ◌⊎◌, inl, inr, List, [], ◌∷◌, ◌++◌, filter, map, is_some, find, None, Some, refl, sym, ap, subst, ◌∙◌, arith}
use Rattle.std.specs.List.{AllPairs, list_all, list_any, range_with_len}
use Rattle.std.proofs.lemmas.Bool.{cases_Bool, cond-true, cond-false, both_ways, and_parts, and_from, or_right}
use Rattle.std.proofs.lemmas.Bool.Decides.{nat_tests}
use Rattle.std.proofs.lemmas.List.Kept.{AllPairs-cons}
use Rattle.std.proofs.lemmas.Option.{same_Some}
use Rattle.desk_types.specs.Keys.{is_less_key, is_same_key}
use Rattle.desk_types.specs.Tables.{has_key, inserted, put_row, replaced}
use Rattle.desk_types.proofs.EachRow.{All-from_Each, Each, Each-mono}
use Rattle.desk_types.proofs.InOrder.{Each-from_All}
use Rattle.desk_types.proofs.Lawful.{found_each}
use Rattle.desk_types.proofs.Puts.{Each-inserted, Ordered, less-irreflexive, neither, not-same, put_new, put_there, same_key}

-- the relation holds of each row and those behind it
abbrev pub Pairs : {A : Type 0} → (A → A → Type 0) → List A → Type 0
Pairs R [] = Unit {0}
Pairs R (r ∷ rows) = Each (R r) rows × Pairs R rows

pub Pairs-from : {A : Type 0} (R : A → A → Type 0) (rows : List A) → AllPairs R rows → Pairs R rows
Pairs-from R [] h = tt
Pairs-from R (r ∷ rows) h = (
  Each-from_All (R r) rows (λ k d low. h 0 (suc k) d (omega arith) (omega (arith, low))),
  Pairs-from R rows (λ i j d low high. h (suc i) (suc j) d (omega (arith, low)) (omega (arith, high))),
)

pub AllPairs-from : {A : Type 0} (R : A → A → Type 0) (rows : List A) → Pairs R rows → AllPairs R rows
AllPairs-from R [] h = λ i j d low high. absurd (omega (arith, high))
AllPairs-from R (r ∷ rows) h = AllPairs-cons R r rows (All-from_Each (R r) rows h.0) (AllPairs-from R rows h.1)

each_last : {A : Type 0} (P : A → Type 0) (rows : List A) (row : A) → P row → Each P rows → Each P (rows ++ row ∷ [])
each_last P [] row last h = (last, tt)
each_last P (r ∷ rows) row last h = (h.0, each_last P rows row last h.1)

pub Pairs-last : {A : Type 0} (R : A → A → Type 0) (rows : List A) (row : A) → Each (λ x. R x row) rows → Pairs R rows → Pairs R (rows ++ row ∷ [])
Pairs-last R [] row last h = (tt, tt)
Pairs-last R (r ∷ rows) row last h = (each_last (R r) rows row last.0 h.0, Pairs-last R rows row last.1 h.1)

-- what holds of a row with the key holds of the row that takes its place
each_replaced : {A : Type 0} (P : A → Type 0) (key : A → List ℕ) (row : A) (rows : List A) → Each (λ s. is_same_key (key s) (key row) ≡ true → P s → P row) rows → Each P rows → Each P (replaced key row rows)
each_replaced P key row [] goes h = tt
each_replaced P key row (r ∷ rows) goes h =
    elim (cases_Bool (is_same_key (key r) (key row))) [
      | inl t ↦ subst (Each P) (sym (cond-true _ _ _ t)) (goes.0 t h.0, h.1)
      | inr t ↦ subst (Each P) (sym (cond-false _ _ _ t)) (h.0, each_replaced P key row rows goes.1 h.1)
    ]

-- the row stands to others as this one does
abbrev pub StandsFor : {A : Type 0} → (A → A → Type 0) → A → A → Type 0
StandsFor {A} R row s = (x : A) → (R s x → R row x) × (R x s → R x row)

Pairs-replaced : {A : Type 0} (R : A → A → Type 0) (key : A → List ℕ) (row : A) (rows : List A) → Each (λ s. is_same_key (key s) (key row) ≡ true → StandsFor R row s) rows → Pairs R rows → Pairs R (replaced key row rows)
Pairs-replaced R key row [] stands h = tt
Pairs-replaced R key row (r ∷ rows) stands h =
    elim (cases_Bool (is_same_key (key r) (key row))) [
      | inl t ↦ subst (Pairs R) (sym (cond-true _ _ _ t)) (Each-mono (R r) (R row) rows (λ x k. (stands.0 t x).0 k) h.0, h.1)
      | inr t ↦
          let goes = Each-mono (λ s. is_same_key (key s) (key row) ≡ true → StandsFor R row s) (λ s. is_same_key (key s) (key row) ≡ true → R r s → R r row) rows (λ s f same k. (f same r).1 k) stands.1 in
          subst (Pairs R) (sym (cond-false _ _ _ t)) (each_replaced (R r) key row rows goes h.0, Pairs-replaced R key row rows stands.1 h.1)
    ]

Pairs-inserted : {A : Type 0} (R : A → A → Type 0) (key : A → List ℕ) (row : A) (rows : List A) → Each (λ x. R x row × R row x) rows → Pairs R rows → Pairs R (inserted key row rows)
Pairs-inserted R key row [] both h = (tt, tt)
Pairs-inserted R key row (r ∷ rows) both h =
    elim (cases_Bool (is_less_key (key row) (key r))) [
      | inl t ↦ subst (Pairs R) (sym (cond-true _ _ _ t)) ((both.0.1, Each-mono (λ x. R x row × R row x) (R row) rows (λ x k. k.1) both.1), h)
      | inr t ↦ subst (Pairs R) (sym (cond-false _ _ _ t)) (Each-inserted (R r) key row rows both.0.0 h.0, Pairs-inserted R key row rows both.1 h.1)
    ]

pub Pairs-put : {A : Type 0} (R : A → A → Type 0) (key : A → List ℕ) (row : A) (rows : List A) → Each (λ s. is_same_key (key s) (key row) ≡ true → StandsFor R row s) rows
    → (has_key key (key row) rows ≡ true) ⊎ Each (λ x. R x row × R row x) rows → Pairs R rows → Pairs R (put_row key row rows)
Pairs-put R key row rows stands new h =
    elim (cases_Bool (has_key key (key row) rows)) [
      | inl t ↦ subst (Pairs R) (sym (put_there key row rows t)) (Pairs-replaced R key row rows stands h)
      | inr t ↦
          subst (Pairs R) (sym (put_new key row rows t))
          (elim new [
            | inl there ↦ absurd (both_ways _ t there)
            | inr both ↦ Pairs-inserted R key row rows both h
          ])
    ]

-- one of the rows passes the test, and still does
any_replaced : {A : Type 0} (test : A → Bool) (key : A → List ℕ) (row : A) (rows : List A) → Each (λ s. is_same_key (key s) (key row) ≡ true → test s ≡ true → test row ≡ true) rows
    → list_any test rows ≡ true → list_any test (replaced key row rows) ≡ true
any_replaced test key row [] goes h = absurd cc
any_replaced test key row (r ∷ rows) goes h =
    elim (cases_Bool (is_same_key (key r) (key row))) [
      | inl t ↦
          ap (list_any test) (cond-true _ (row ∷ rows) (r ∷ replaced key row rows) t)
          ∙ elim (cases_Bool (test r)) [
            | inl u ↦ ap (λ b. b || list_any test rows) (goes.0 t u)
            | inr u ↦ or_right (test row) (list_any test rows) (sym (ap (λ b. b || list_any test rows) u) ∙ h)
          ]
      | inr t ↦
          ap (list_any test) (cond-false _ (row ∷ rows) (r ∷ replaced key row rows) t)
          ∙ elim (cases_Bool (test r)) [
            | inl u ↦ ap (λ b. b || list_any test (replaced key row rows)) u
            | inr u ↦ or_right (test r) (list_any test (replaced key row rows)) (any_replaced test key row rows goes.1 (sym (ap (λ b. b || list_any test rows) u) ∙ h))
          ]
    ]

any_inserted : {A : Type 0} (test : A → Bool) (key : A → List ℕ) (row : A) (rows : List A) → list_any test rows ≡ true → list_any test (inserted key row rows) ≡ true
any_inserted test key row [] h = absurd cc
any_inserted test key row (r ∷ rows) h =
    elim (cases_Bool (is_less_key (key row) (key r))) [
      | inl t ↦ ap (list_any test) (cond-true _ (row ∷ r ∷ rows) (r ∷ inserted key row rows) t) ∙ or_right (test row) (list_any test (r ∷ rows)) h
      | inr t ↦
          ap (list_any test) (cond-false _ (row ∷ r ∷ rows) (r ∷ inserted key row rows) t)
          ∙ elim (cases_Bool (test r)) [
            | inl u ↦ ap (λ b. b || list_any test (inserted key row rows)) u
            | inr u ↦ or_right (test r) (list_any test (inserted key row rows)) (any_inserted test key row rows (sym (ap (λ b. b || list_any test rows) u) ∙ h))
          ]
    ]

pub any-put : {A : Type 0} (test : A → Bool) (key : A → List ℕ) (row : A) (rows : List A) → Each (λ s. is_same_key (key s) (key row) ≡ true → test s ≡ true → test row ≡ true) rows
    → list_any test rows ≡ true → list_any test (put_row key row rows) ≡ true
any-put test key row rows goes h =
    elim (cases_Bool (has_key key (key row) rows)) [
      | inl t ↦ ap (list_any test) (put_there key row rows t) ∙ any_replaced test key row rows goes h
      | inr t ↦ ap (list_any test) (put_new key row rows t) ∙ any_inserted test key row rows h
    ]

-- the row that is put passes the test
any_replaces : {A : Type 0} (test : A → Bool) (key : A → List ℕ) (row : A) (rows : List A) → has_key key (key row) rows ≡ true → test row ≡ true → list_any test (replaced key row rows) ≡ true
any_replaces test key row [] there h = absurd cc
any_replaces test key row (r ∷ rows) there h =
    elim (cases_Bool (is_same_key (key r) (key row))) [
      | inl t ↦ ap (list_any test) (cond-true _ (row ∷ rows) (r ∷ replaced key row rows) t) ∙ ap (λ b. b || list_any test rows) h
      | inr t ↦
          ap (list_any test) (cond-false _ (row ∷ rows) (r ∷ replaced key row rows) t)
          ∙ or_right (test r) (list_any test (replaced key row rows)) (any_replaces test key row rows (sym (ap (λ b. b || has_key key (key row) rows) t) ∙ there) h)
    ]

any_inserts : {A : Type 0} (test : A → Bool) (key : A → List ℕ) (row : A) (rows : List A) → test row ≡ true → list_any test (inserted key row rows) ≡ true
any_inserts test key row [] h = ap (λ b. b || false) h
any_inserts test key row (r ∷ rows) h =
    elim (cases_Bool (is_less_key (key row) (key r))) [
      | inl t ↦ ap (list_any test) (cond-true _ (row ∷ r ∷ rows) (r ∷ inserted key row rows) t) ∙ ap (λ b. b || list_any test (r ∷ rows)) h
      | inr t ↦
          ap (list_any test) (cond-false _ (row ∷ r ∷ rows) (r ∷ inserted key row rows) t)
          ∙ or_right (test r) (list_any test (inserted key row rows)) (any_inserts test key row rows h)
    ]

pub any-put_row : {A : Type 0} (test : A → Bool) (key : A → List ℕ) (row : A) (rows : List A) → test row ≡ true → list_any test (put_row key row rows) ≡ true
any-put_row test key row rows h =
    elim (cases_Bool (has_key key (key row) rows)) [
      | inl t ↦ ap (list_any test) (put_there key row rows t) ∙ any_replaces test key row rows t h
      | inr t ↦ ap (list_any test) (put_new key row rows t) ∙ any_inserts test key row rows h
    ]

-- a row that is found is the only one that has its key
pub only : {A : Type 0} (key : A → List ℕ) (test : A → Bool) (rows : List A) (old : A) → Ordered key rows → find test rows ≡ Some old → Each (λ s. is_same_key (key s) (key old) ≡ true → s ≡ old) rows
only key test [] old order found = tt
only key test (r ∷ rows) old order found =
    elim (cases_Bool (test r)) [
      | inl t ↦
          let here : r ≡ old = same_Some r old (sym (cond-true (test r) (Some r) (find test rows) t) ∙ found) in (
            λ same. here,
            Each-mono (λ s. is_less_key (key r) (key s) ≡ true) (λ s. is_same_key (key s) (key old) ≡ true → s ≡ old) rows
                (λ s less same. absurd (both_ways _ (less-irreflexive (key r)) (subst (λ k. is_less_key (key r) k ≡ true) (same_key (key s) (key old) same ∙ sym (ap key here)) less))) order.0,
          )
      | inr t ↦
          let later : find test rows ≡ Some old = sym (cond-false (test r) (Some r) (find test rows) t) ∙ found in
          let less = (found_each (λ s. is_less_key (key r) (key s) ≡ true) test rows old order.0 later).0 in
          (λ same. absurd (both_ways _ (not-same (key r) (key old) less) same), only key test rows old order.1 later)
    ]

-- where none is found, none passes
pub none_found : {A : Type 0} (test : A → Bool) (rows : List A) → find test rows ≡ None → Each (λ x. test x ≡ false) rows
none_found test [] h = tt
none_found test (r ∷ rows) h =
    elim (cases_Bool (test r)) [
      | inl t ↦ let e : Some r ≡ None = sym (cond-true (test r) (Some r) (find test rows) t) ∙ h in absurd cc
      | inr t ↦ (t, none_found test rows (sym (cond-false (test r) (Some r) (find test rows) t) ∙ h))
    ]

-- a row whose key is new is alike to none
pub none_same : {A : Type 0} (key : A → List ℕ) (row : A) (P : A → Type 0) (rows : List A) → has_key key (key row) rows ≡ false → Each (λ s. is_same_key (key s) (key row) ≡ true → P s) rows
none_same key row P [] new = tt
none_same key row P (r ∷ rows) new =
    let parts = neither (is_same_key (key r) (key row)) (has_key key (key row) rows) new in
    (λ same. absurd (both_ways _ parts.0 same), none_same key row P rows parts.1)

pub every : {A : Type 0} (P : A → Type 0) (rows : List A) → ((x : A) → P x) → Each P rows
every P [] h = tt
every P (r ∷ rows) h = (h r, every P rows h)

pub list_all-weaker : (p q : ℕ → Bool) (numbers : List ℕ) → ((n : ℕ) → p n ≡ true → q n ≡ true) → list_all p numbers ≡ true → list_all q numbers ≡ true
list_all-weaker p q [] goes h = refl
list_all-weaker p q (n ∷ numbers) goes h =
    let parts = and_parts (p n) (list_all p numbers) h in
    and_from (q n) (list_all q numbers) (goes n parts.0) (list_all-weaker p q numbers goes parts.1)

-- a test that each number of a run passes
pub list_all-run : (p : ℕ → Bool) (from count : ℕ) → ((n : ℕ) → from ≤ n → n < from + count → p n ≡ true) → list_all p (range_with_len from count) ≡ true
list_all-run p from zero h = refl
list_all-run p from (suc count) h = and_from (p from) (list_all p (range_with_len (from + 1) count)) (h from (omega arith) (omega arith)) (list_all-run p (from + 1) count (λ n low high. h n (omega (arith, low)) (omega (arith, high))))

number_parts : (x y : ℕ) (xs ys : List ℕ) → x ∷ xs ≡ y ∷ ys → (x ≡ y) × (xs ≡ ys)
number_parts x y xs ys e = (cc, cc)

next_above : (from n : ℕ) → from ≤ n → (from == n) ≡ false → from + 1 ≤ n
next_above from n low other = grind (arith, nat_tests)

-- each number of a run is there
pub numbered_there : {A : Type 0} (test : A → Bool) (number : A → ℕ) (rows : List A) (from count n : ℕ) → map number (filter test rows) ≡ range_with_len from count → from ≤ n → n < from + count
    → is_some (find (λ x. test x && number x == n) rows) ≡ true
numbered_there test number [] from zero n run low high = absurd (omega (arith, low, high))
numbered_there test number [] from (suc count) n run low high = absurd cc
numbered_there {A} test number (r ∷ rows) from zero n run low high = absurd (omega (arith, low, high))
numbered_there {A} test number (r ∷ rows) from (suc count) n run low high =
    let here = λ (x : A). test x && number x == n in
    elim (cases_Bool (here r)) [
      | inl t ↦ ap is_some (cond-true (here r) (Some r) (find here rows) t)
      | inr t ↦ ap is_some (cond-false (here r) (Some r) (find here rows) t) ∙ elim (cases_Bool (test r)) [
        | inl u ↦
            let e = number_parts (number r) from (map number (filter test rows)) (range_with_len (from + 1) count) (sym (ap (map number) (cond-true (test r) (r ∷ filter test rows) (filter test rows) u)) ∙ run) in
            let other : (number r == n) ≡ false = sym (ap (λ b. b && number r == n) u) ∙ t in
            let above : from + 1 ≤ n = next_above from n low (subst (λ m. (m == n) ≡ false) e.0 other) in
            numbered_there test number rows (from + 1) count n e.1 above (omega (arith, high))
        | inr u ↦ numbered_there test number rows from (suc count) n (sym (ap (map number) (cond-false (test r) (r ∷ filter test rows) (filter test rows) u)) ∙ run) low high
      ]
    ]
