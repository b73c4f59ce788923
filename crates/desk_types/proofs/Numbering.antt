-- Numbers run from 1 without a gap, where a row that is put is there already or has the next number.
use Rattle.std.proofs.Common.{◌≡◌, ℕ, suc, zero, ◌+◌, ◌<◌, ◌≤◌, Bool, true, false, ◌==◌, ◌||◌, cond, ◌⊎◌, inl, inr, List, [], ◌∷◌, ◌++◌, filter, length, map, refl, sym, ap, subst, ◌∙◌, arith, length-append}
use Rattle.std.specs.List.{count_by, range_with_len}
use Rattle.std.proofs.lemmas.Bool.{cases_Bool, cond-true, cond-false, both_ways, eqb-true, eq-eqb}
use Rattle.std.proofs.lemmas.Bool.Decides.{nat_tests}
use Rattle.std.proofs.lemmas.List.{length-map, map-append}
use Rattle.std.proofs.lemmas.List.Sums.{sum_by-cons}
use Rattle.desk_types.specs.Keys.{is_less_key, is_same_key}
use Rattle.desk_types.specs.Sound.{RunFromOne}
use Rattle.desk_types.specs.Tables.{has_key, inserted, put_row, replaced}
use Rattle.desk_types.proofs.EachRow.{Each, Each-mono}
use Rattle.desk_types.proofs.Legality.{range-more}
use Rattle.desk_types.proofs.Puts.{Ordered, less-asym, less-trans, not-same, put_last, put_new, put_there, same_key, sum-put_new}

map_choice : {A : Type 0} (number : A → ℕ) (b : Bool) (x y : A) (l : List A) → number x ≡ number y → map number (cond b (x ∷ l) l) ≡ map number (cond b (y ∷ l) l)
map_choice number true x y l e = ap (λ n. n ∷ map number l) e
map_choice number false x y l e = refl

under : {A : Type 0} (number : A → ℕ) (b : Bool) (r : A) (l m : List A) → map number l ≡ map number m → map number (cond b (r ∷ l) l) ≡ map number (cond b (r ∷ m) m)
under number true r l m e = ap (λ k. number r ∷ k) e
under number false r l m e = e

-- rows that agree with the one that is put
abbrev Alike : {A : Type 0} → (A → List ℕ) → A → (A → Bool) → (A → ℕ) → Type 0
Alike {A} key row test number = (x : A) → is_same_key (key x) (key row) ≡ true → (test x ≡ test row) × (number x ≡ number row)

filter-replaced : {A : Type 0} (key : A → List ℕ) (row : A) (test : A → Bool) (number : A → ℕ) (rows : List A) → Alike key row test number
    → map number (filter test (replaced key row rows)) ≡ map number (filter test rows)
filter-replaced key row test number [] alike = refl
filter-replaced key row test number (r ∷ rows) alike =
    elim (cases_Bool (is_same_key (key r) (key row))) [
      | inl t ↦
          ap (λ l. map number (filter test l)) (cond-true _ (row ∷ rows) (r ∷ replaced key row rows) t)
          ∙ (λ i. map number (cond (sym (alike r t).0 i) (row ∷ filter test rows) (filter test rows)))
          ∙ map_choice number (test r) row r (filter test rows) (sym (alike r t).1)
      | inr t ↦
          ap (λ l. map number (filter test l)) (cond-false _ (row ∷ rows) (r ∷ replaced key row rows) t)
          ∙ under number (test r) r (filter test (replaced key row rows)) (filter test rows) (filter-replaced key row test number rows alike)
    ]

filter-inserted_other : {A : Type 0} (key : A → List ℕ) (row : A) (test : A → Bool) (number : A → ℕ) (rows : List A) → test row ≡ false
    → map number (filter test (inserted key row rows)) ≡ map number (filter test rows)
filter-inserted_other key row test number [] fails = ap (map number) (cond-false (test row) _ _ fails)
filter-inserted_other key row test number (r ∷ rows) fails =
    elim (cases_Bool (is_less_key (key row) (key r))) [
      | inl t ↦
          ap (λ l. map number (filter test l)) (cond-true _ (row ∷ r ∷ rows) (r ∷ inserted key row rows) t)
          ∙ ap (map number) (cond-false (test row) _ _ fails)
      | inr t ↦
          ap (λ l. map number (filter test l)) (cond-false _ (row ∷ r ∷ rows) (r ∷ inserted key row rows) t)
          ∙ under number (test r) r (filter test (inserted key row rows)) (filter test rows) (filter-inserted_other key row test number rows fails)
    ]

none_kept : {A : Type 0} (test : A → Bool) (rows : List A) → Each (λ s. test s ≡ false) rows → filter test rows ≡ []
none_kept test [] h = refl
none_kept test (r ∷ rows) h = cond-false (test r) _ _ h.0 ∙ none_kept test rows h.1

fails_above : {A : Type 0} (key : A → List ℕ) (row : A) (test : A → Bool) (s : A) → is_less_key (key row) (key s) ≡ true → (test s ≡ true → is_less_key (key s) (key row) ≡ true) → test s ≡ false
fails_above key row test s above h =
    elim (cases_Bool (test s)) [ inl t ↦ absurd (less-asym (key row) (key s) above (h t)) | inr t ↦ t ]

-- the rows of the test are below the row
abbrev Below : {A : Type 0} → (A → List ℕ) → A → (A → Bool) → List A → Type 0
Below {A} key row test rows = Each (λ (s : A). test s ≡ true → is_less_key (key s) (key row) ≡ true) rows

none_above : {A : Type 0} (key : A → List ℕ) (row r : A) (test : A → Bool) (rows : List A) → is_less_key (key row) (key r) ≡ true
    → Each (λ s. is_less_key (key r) (key s) ≡ true) rows → Below key row test rows → Each (λ s. test s ≡ false) rows
none_above key row r test [] t h below = tt
none_above key row r test (s ∷ rows) t h below = (
  fails_above key row test s (less-trans (key row) (key r) (key s) t h.0) below.0,
  none_above key row r test rows t h.1 below.1,
)

push_choice : {A : Type 0} (b : Bool) (r row : A) (l : List A) → cond b (r ∷ l ++ row ∷ []) (l ++ row ∷ []) ≡ cond b (r ∷ l) l ++ row ∷ []
push_choice true r row l = refl
push_choice false r row l = refl

filter-inserted_last : {A : Type 0} (key : A → List ℕ) (row : A) (test : A → Bool) (rows : List A) → test row ≡ true → Ordered key rows → Below key row test rows
    → filter test (inserted key row rows) ≡ filter test rows ++ row ∷ []
filter-inserted_last key row test [] passes order below = cond-true (test row) _ _ passes
filter-inserted_last key row test (r ∷ rows) passes order below =
    elim (cases_Bool (is_less_key (key row) (key r))) [
      | inl t ↦
          let none : filter test (r ∷ rows) ≡ [] = none_kept test (r ∷ rows) (fails_above key row test r t below.0, none_above key row r test rows t order.0 below.1) in
          ap (filter test) (cond-true _ (row ∷ r ∷ rows) (r ∷ inserted key row rows) t)
          ∙ cond-true (test row) _ _ passes ∙ ap (λ l. row ∷ l) none ∙ sym (ap (λ l. l ++ row ∷ []) none)
      | inr t ↦
          ap (filter test) (cond-false _ (row ∷ r ∷ rows) (r ∷ inserted key row rows) t)
          ∙ ap (λ l. cond (test r) (r ∷ l) l) (filter-inserted_last key row test rows passes order.1 below.1)
          ∙ push_choice (test r) r row (filter test rows)
    ]

cons_parts : (x y : ℕ) (xs ys : List ℕ) → x ∷ xs ≡ y ∷ ys → (x ≡ y) × (xs ≡ ys)
cons_parts x y xs ys e = (cc, cc)

-- numbers of a run are below its end
numbers_below : {A : Type 0} (test : A → Bool) (number : A → ℕ) (rows : List A) (a n : ℕ) → map number (filter test rows) ≡ range_with_len a n → Each (λ x. test x ≡ true → number x < a + n) rows
numbers_below test number [] a n run = tt
numbers_below test number (r ∷ rows) a zero run =
    elim (cases_Bool (test r)) [
      | inl t ↦
          let e : number r ∷ map number (filter test rows) ≡ [] = sym (ap (map number) (cond-true (test r) (r ∷ filter test rows) (filter test rows) t)) ∙ run in
          absurd cc
      | inr t ↦ (λ is. absurd (both_ways _ t is), numbers_below test number rows a zero (sym (ap (map number) (cond-false (test r) (r ∷ filter test rows) (filter test rows) t)) ∙ run))
    ]
numbers_below test number (r ∷ rows) a (suc n) run =
    elim (cases_Bool (test r)) [
      | inl t ↦
          let e = cons_parts (number r) a (map number (filter test rows)) (range_with_len (a + 1) n) (sym (ap (map number) (cond-true (test r) (r ∷ filter test rows) (filter test rows) t)) ∙ run) in (
            λ is. omega (arith, e.0),
            Each-mono (λ x. test x ≡ true → number x < a + 1 + n) (λ x. test x ≡ true → number x < a + suc n) rows (λ x k is. omega (arith, k is)) (numbers_below test number rows (a + 1) n e.1),
          )
      | inr t ↦ (λ is. absurd (both_ways _ t is), numbers_below test number rows a (suc n) (sym (ap (map number) (cond-false (test r) (r ∷ filter test rows) (filter test rows) t)) ∙ run))
    ]

pub length_kept : {A : Type 0} (test : A → Bool) (rows : List A) → length (filter test rows) ≡ count_by test rows
length_kept test [] = refl
length_kept test (r ∷ rows) =
    elim (cases_Bool (test r)) [
      | inl t ↦ ap length (cond-true (test r) (r ∷ filter test rows) (filter test rows) t)
          ∙ (omega (arith, length_kept test rows, sum_by-cons (λ x. cond (test x) 1 0) r rows, cond-true {A = ℕ} (test r) 1 0 t))
      | inr t ↦ ap length (cond-false (test r) (r ∷ filter test rows) (filter test rows) t)
          ∙ (omega (arith, length_kept test rows, sum_by-cons (λ x. cond (test x) 1 0) r rows, cond-false {A = ℕ} (test r) 1 0 t))
    ]

-- a run with its next number
run_more : (numbers : List ℕ) (next : ℕ) → RunFromOne numbers → next ≡ length numbers + 1 → RunFromOne (numbers ++ next ∷ [])
run_more numbers next run is =
    let n = length numbers in
    let longer : length (numbers ++ next ∷ []) ≡ n + 1 = length-append numbers (next ∷ []) in
    let last : next ≡ 1 + n = omega (arith, is) in
    (λ i. run i ++ last i ∷ []) ∙ sym (range-more 1 n) ∙ ap (range_with_len 1) (sym longer)

-- for each group of rows, its numbers run from 1
abbrev pub RunInGroups : {A : Type 0} → (A → ℕ) → (A → ℕ) → List A → Type 0
RunInGroups {A} group number rows = (g : ℕ) → RunFromOne (map number (filter (λ (x : A). group x == g) rows))

-- a key that has the group and then the number
abbrev pub IsKeyOf : {A : Type 0} → (A → List ℕ) → (A → ℕ) → (A → ℕ) → Type 0
IsKeyOf {A} key group number = (x : A) → key x ≡ group x ∷ number x ∷ []

-- a row that is there, or has the next number of its group
abbrev pub IsThereOrNext : {A : Type 0} → (A → List ℕ) → (A → ℕ) → (A → ℕ) → A → List A → Type 0
IsThereOrNext {A} key group number row rows =
    (has_key key (key row) rows ≡ true) ⊎ (number row ≡ count_by (λ (x : A). group x == group row) rows + 1)

pair_parts : (a b c d : ℕ) → a ∷ b ∷ [] ≡ c ∷ d ∷ [] → (a ≡ c) × (b ≡ d)
pair_parts a b c d e = (cc, cc)

alike_in_group : {A : Type 0} (key : A → List ℕ) (group number : A → ℕ) (row : A) (g : ℕ) → IsKeyOf key group number → Alike key row (λ x. group x == g) number
alike_in_group key group number row g is x same =
    let parts = pair_parts (group x) (number x) (group row) (number row) (sym (is x) ∙ same_key (key x) (key row) same ∙ is row) in
    (ap (λ n. n == g) parts.0, parts.1)

lower_key : (g m n : ℕ) → m < n → is_less_key (g ∷ m ∷ []) (g ∷ n ∷ []) ≡ true
lower_key g m n h = grind (arith, nat_tests)

below_in : {A : Type 0} (key : A → List ℕ) (group number : A → ℕ) (row : A) (rows : List A) → IsKeyOf key group number → RunFromOne (map number (filter (λ x. group x == group row) rows))
    → number row ≡ count_by (λ x. group x == group row) rows + 1 → Below key row (λ x. group x == group row) rows
below_in {A} key group number row rows is run next =
    let test = λ (x : A). group x == group row in
    let n = length (map number (filter test rows)) in
    let count : n ≡ count_by test rows = length-map (filter test rows) number ∙ length_kept test rows in
    Each-mono (λ x. test x ≡ true → number x < 1 + n) (λ x. test x ≡ true → is_less_key (key x) (key row) ≡ true) rows
    (λ x low same.
    let group_is = eqb-true (group x) (group row) same in
    let lower = lower_key (group row) (number x) (number row) (omega (arith, low same, count, next)) in
    subst (λ k. is_less_key k (key row) ≡ true) (sym (is x ∙ ap (λ g. g ∷ number x ∷ []) group_is)) (subst (λ k. is_less_key (group row ∷ number x ∷ []) k ≡ true) (sym (is row)) lower))
    (numbers_below test number rows 1 n run)

below_next : {A : Type 0} (key : A → List ℕ) (group number : A → ℕ) (row : A) (rows : List A) → IsKeyOf key group number → RunInGroups group number rows
    → number row ≡ count_by (λ x. group x == group row) rows + 1 → Below key row (λ x. group x == group row) rows
below_next key group number row rows is runs next = below_in key group number row rows is (runs (group row)) next

groups_there : {A : Type 0} (key : A → List ℕ) (group number : A → ℕ) (row : A) (rows : List A) → IsKeyOf key group number → RunInGroups group number rows
    → RunInGroups group number (replaced key row rows)
groups_there {A} key group number row rows is runs g =
    subst RunFromOne (sym (filter-replaced key row (λ x. group x == g) number rows (alike_in_group key group number row g is))) (runs g)

groups_next : {A : Type 0} (key : A → List ℕ) (group number : A → ℕ) (row : A) (rows : List A) → IsKeyOf key group number → Ordered key rows → RunInGroups group number rows
    → number row ≡ count_by (λ x. group x == group row) rows + 1 → RunInGroups group number (inserted key row rows)
groups_next {A} key group number row rows is order runs next g =
    elim (cases_Bool (group row == g)) [
      | inl t ↦
          let same : group row ≡ g = eqb-true (group row) g t in
          let test = λ (x : A). group x == group row in
          let whole : map number (filter test (inserted key row rows)) ≡ map number (filter test rows) ++ number row ∷ [] =
          ap (map number) (filter-inserted_last key row test rows (eq-eqb (group row) (group row) refl) order (below_next key group number row rows is runs next))
          ∙ map-append number (filter test rows) (row ∷ []) in
          let count : length (map number (filter test rows)) ≡ count_by test rows = length-map (filter test rows) number ∙ length_kept test rows in
          subst (λ h. RunFromOne (map number (filter (λ (x : A). group x == h) (inserted key row rows)))) same
          (subst RunFromOne (sym whole) (run_more (map number (filter test rows)) (number row) (runs (group row)) (omega (arith, next, count))))
      | inr t ↦ subst RunFromOne (sym (filter-inserted_other key row (λ x. group x == g) number rows t)) (runs g)
    ]

pub groups-put : {A : Type 0} (key : A → List ℕ) (group number : A → ℕ) (row : A) (rows : List A) → IsKeyOf key group number → Ordered key rows → RunInGroups group number rows
    → IsThereOrNext key group number row rows → RunInGroups group number (put_row key row rows)
groups-put {A} key group number row rows is order runs next =
    elim (cases_Bool (has_key key (key row) rows)) [
      | inl t ↦ subst (RunInGroups group number) (sym (put_there key row rows t)) (groups_there key group number row rows is runs)
      | inr t ↦
          subst (RunInGroups group number) (sym (put_new key row rows t))
          (groups_next key group number row rows is order runs (elim next [ inl there ↦ absurd (both_ways _ t there) | inr last ↦ last ]))
    ]

-- a row that is there, or for which its group has room, keeps each group within a limit
count_there : {A : Type 0} (key : A → List ℕ) (group number : A → ℕ) (row : A) (rows : List A) → IsKeyOf key group number → has_key key (key row) rows ≡ true
    → (g : ℕ) → count_by (λ (x : A). group x == g) (put_row key row rows) ≡ count_by (λ (x : A). group x == g) rows
count_there {A} key group number row rows is there g =
    let test = λ (x : A). group x == g in
    let now = filter test (replaced key row rows) in
    ap (count_by test) (put_there key row rows there) ∙ sym (length-map now number ∙ length_kept test (replaced key row rows))
    ∙ ap length (filter-replaced key row test number rows (alike_in_group key group number row g is)) ∙ length-map (filter test rows) number ∙ length_kept test rows

count_new : {A : Type 0} (key : A → List ℕ) (group : A → ℕ) (row : A) (rows : List A) (limit : ℕ) → has_key key (key row) rows ≡ false → ((g : ℕ) → count_by (λ (x : A). group x == g) rows ≤ limit)
    → count_by (λ (x : A). group x == group row) rows + 1 ≤ limit → (g : ℕ) → count_by (λ (x : A). group x == g) (put_row key row rows) ≤ limit
count_new {A} key group row rows limit new fits more g =
    let sums = sum-put_new key row (λ (x : A). cond (group x == g) 1 0) rows new in
    elim (cases_Bool (group row == g)) [
      | inl t ↦
          let room : count_by (λ (x : A). group x == g) rows + 1 ≤ limit =
          subst (λ h. count_by (λ (x : A). group x == h) rows + 1 ≤ limit) (eqb-true (group row) g t) more in
          omega (arith, sums, cond-true {A = ℕ} (group row == g) 1 0 t, room)
      | inr t ↦ omega (arith, sums, cond-false {A = ℕ} (group row == g) 1 0 t, fits g)
    ]

pub groups-within : {A : Type 0} (key : A → List ℕ) (group number : A → ℕ) (row : A) (rows : List A) (limit : ℕ) → IsKeyOf key group number → ((g : ℕ) → count_by (λ (x : A). group x == g) rows ≤ limit)
    → (has_key key (key row) rows ≡ true) ⊎ (count_by (λ (x : A). group x == group row) rows + 1 ≤ limit) → (g : ℕ) → count_by (λ (x : A). group x == g) (put_row key row rows) ≤ limit
groups-within key group number row rows limit is fits room g =
    elim (cases_Bool (has_key key (key row) rows)) [
      | inl t ↦ omega (arith, count_there key group number row rows is t g, fits g)
      | inr t ↦
          elim room [
            | inl there ↦ absurd (both_ways _ t there)
            | inr more ↦ count_new key group row rows limit t fits more g
          ]
    ]

-- the same of a table whose keys are its numbers
numbers-replaced : {A : Type 0} (key : A → List ℕ) (number : A → ℕ) (row : A) (rows : List A) → ((x : A) → key x ≡ number x ∷ []) → map number (replaced key row rows) ≡ map number rows
numbers-replaced key number row [] is = refl
numbers-replaced key number row (r ∷ rows) is =
    elim (cases_Bool (is_same_key (key r) (key row))) [
      | inl t ↦
          ap (map number) (cond-true _ (row ∷ rows) (r ∷ replaced key row rows) t)
          ∙ ap (λ n. n ∷ map number rows) (sym (cons_parts (number r) (number row) [] [] (sym (is r) ∙ same_key (key r) (key row) t ∙ is row)).0)
      | inr t ↦
          ap (map number) (cond-false _ (row ∷ rows) (r ∷ replaced key row rows) t)
          ∙ ap (λ l. number r ∷ l) (numbers-replaced key number row rows is)
    ]

all_below : {A : Type 0} (number : A → ℕ) (rows : List A) (a n : ℕ) → map number rows ≡ range_with_len a n → Each (λ x. number x < a + n) rows
all_below number [] a n run = tt
all_below number (r ∷ rows) a zero run = absurd cc
all_below number (r ∷ rows) a (suc n) run =
    let e = cons_parts (number r) a (map number rows) (range_with_len (a + 1) n) run in
    (omega (arith, e.0), Each-mono (λ x. number x < a + 1 + n) (λ x. number x < a + suc n) rows (λ x k. omega (arith, k)) (all_below number rows (a + 1) n e.1))

lower_number : (m n : ℕ) → m < n → is_less_key (m ∷ []) (n ∷ []) ≡ true
lower_number m n h = grind (arith, nat_tests)

next_above : {A : Type 0} (key : A → List ℕ) (number : A → ℕ) (row : A) (rows : List A) → ((x : A) → key x ≡ number x ∷ []) → RunFromOne (map number rows)
    → number row ≡ length rows + 1 → Each (λ x. is_less_key (key x) (key row) ≡ true) rows
next_above key number row rows is run next =
    let count = length-map rows number in
    Each-mono (λ x. number x < 1 + length (map number rows)) (λ x. is_less_key (key x) (key row) ≡ true) rows
    (λ x low.
    let lower = lower_number (number x) (number row) (omega (arith, low, count, next)) in
    subst (λ k. is_less_key k (key row) ≡ true) (sym (is x)) (subst (λ k. is_less_key (number x ∷ []) k ≡ true) (sym (is row)) lower))
    (all_below number rows 1 (length (map number rows)) run)

-- the next row goes last
pub next_last : {A : Type 0} (key : A → List ℕ) (number : A → ℕ) (row : A) (rows : List A) → ((x : A) → key x ≡ number x ∷ []) → RunFromOne (map number rows)
    → number row ≡ length rows + 1 → put_row key row rows ≡ rows ++ row ∷ []
next_last key number row rows is run next = put_last key row rows (next_above key number row rows is run next)

pub numbers-put : {A : Type 0} (key : A → List ℕ) (number : A → ℕ) (row : A) (rows : List A) → ((x : A) → key x ≡ number x ∷ []) → RunFromOne (map number rows)
    → (has_key key (key row) rows ≡ true) ⊎ (number row ≡ length rows + 1) → RunFromOne (map number (put_row key row rows))
numbers-put key number row rows is run (inl there) = subst RunFromOne (sym (ap (map number) (put_there key row rows there) ∙ numbers-replaced key number row rows is)) run
numbers-put key number row rows is run (inr next) =
    let whole = ap (map number) (next_last key number row rows is run next) ∙ map-append number rows (row ∷ []) in
    subst RunFromOne (sym whole) (run_more (map number rows) (number row) run (omega (arith, next, length-map rows number)))

-- the next row is new
none_same : {A : Type 0} (key : A → List ℕ) (row : A) (rows : List A) → Each (λ r. is_less_key (key r) (key row) ≡ true) rows → has_key key (key row) rows ≡ false
none_same key row [] h = refl
none_same key row (r ∷ rows) h = (λ i. not-same (key r) (key row) h.0 i || none_same key row rows h.1 i)

pub next_new : {A : Type 0} (key : A → List ℕ) (number : A → ℕ) (row : A) (rows : List A) → ((x : A) → key x ≡ number x ∷ []) → RunFromOne (map number rows)
    → number row ≡ length rows + 1 → has_key key (key row) rows ≡ false
next_new key number row rows is run next = none_same key row rows (next_above key number row rows is run next)

none_in_group : {A : Type 0} (key : A → List ℕ) (group : A → ℕ) (row : A) (rows : List A) → ((x : A) → is_same_key (key x) (key row) ≡ true → group x ≡ group row)
    → Below key row (λ x. group x == group row) rows → has_key key (key row) rows ≡ false
none_in_group key group row [] alike h = refl
none_in_group key group row (r ∷ rows) alike h =
    elim (cases_Bool (is_same_key (key r) (key row))) [
      | inl t ↦ absurd (both_ways _ (not-same (key r) (key row) (h.0 (eq-eqb (group r) (group row) (alike r t)))) t)
      | inr t ↦ (λ i. t i || none_in_group key group row rows alike h.1 i)
    ]

pub group_new : {A : Type 0} (key : A → List ℕ) (group number : A → ℕ) (row : A) (rows : List A) → IsKeyOf key group number → RunInGroups group number rows
    → number row ≡ count_by (λ x. group x == group row) rows + 1 → has_key key (key row) rows ≡ false
group_new key group number row rows is runs next =
    none_in_group key group row rows (λ x same. (pair_parts (group x) (number x) (group row) (number row) (sym (is x) ∙ same_key (key x) (key row) same ∙ is row)).0)
    (below_next key group number row rows is runs next)

-- the next row of a group goes behind the others of the group
pub group_put_next : {A : Type 0} (key : A → List ℕ) (group number : A → ℕ) (row : A) (rows : List A) → IsKeyOf key group number → Ordered key rows
    → RunFromOne (map number (filter (λ x. group x == group row) rows)) → number row ≡ count_by (λ x. group x == group row) rows + 1
    → filter (λ x. group x == group row) (put_row key row rows) ≡ filter (λ x. group x == group row) rows ++ row ∷ []
group_put_next {A} key group number row rows is order run next =
    let test = λ (x : A). group x == group row in
    let below = below_in key group number row rows is run next in
    let new = none_in_group key group row rows (λ x same. (pair_parts (group x) (number x) (group row) (number row) (sym (is x) ∙ same_key (key x) (key row) same ∙ is row)).0) below in
    ap (filter test) (put_new key row rows new) ∙ filter-inserted_last key row test rows (eq-eqb (group row) (group row) refl) order below

pub run_next : {A : Type 0} (number : A → ℕ) (row : A) (rows : List A) → RunFromOne (map number rows) → number row ≡ length rows + 1 → RunFromOne (map number (rows ++ row ∷ []))
run_next number row rows run next =
    subst RunFromOne (sym (map-append number rows (row ∷ []))) (run_more (map number rows) (number row) run (omega (arith, next, length-map rows number)))
