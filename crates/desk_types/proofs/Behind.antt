-- What holds of each row behind the rows before it, and what that says of all rows.
use Rattle.std.proofs.Common.{◌≡◌, ℕ, suc, ◌+◌, ◌<◌, ◌≤◌, Bool, true, false, not, ◌==◌, cond, inl, inr, List, [], ◌∷◌, ◌++◌, filter, length, map, refl, sym, ap, subst, ◌∙◌, arith, length-append}
use Rattle.std.specs.Prelude.{nat_lt}
use Rattle.std.specs.List.{All, AllPairs, count_by, list_any, range_with_len}
use Rattle.std.proofs.lemmas.Bool.{cases_Bool, cond-true, cond-false, eqb-true, eq-eqb}
use Rattle.std.proofs.lemmas.Bool.Decides.{nat_tests}
use Rattle.std.proofs.lemmas.List.Kept.{AllPairs-cons}
use Rattle.std.proofs.lemmas.List.Sums.{sum_by-cons, sum_by_push}
use Rattle.desk_types.specs.Rules.{has_place, is_next, last_passes}
use Rattle.desk_types.specs.Sound.{RunFromOne}
use Rattle.desk_types.proofs.EachRow.{Each, Each-mono, All-from_Each, list_any-last_fails}
use Rattle.desk_types.proofs.InOrder.{Each-from_All}
use Rattle.desk_types.proofs.Puts.{none_of}

-- the property holds of each row behind those before it
abbrev pub Behind : {A : Type 0} → (List A → A → Type 0) → List A → List A → Type 0
Behind K before [] = Unit {0}
Behind K before (row ∷ rows) = K before row × Behind K (before ++ row ∷ []) rows

pub Behind-mono : {A : Type 0} (K L : List A → A → Type 0) (before rows : List A) → ((b : List A) (x : A) → K b x → L b x) → Behind K before rows → Behind L before rows
Behind-mono K L before [] f h = tt
Behind-mono K L before (row ∷ rows) f h = (f before row h.0, Behind-mono K L (before ++ row ∷ []) rows f h.1)

pub Behind-both : {A : Type 0} (K L M : List A → A → Type 0) (before rows : List A) → ((b : List A) (x : A) → K b x → L b x → M b x) → Behind K before rows → Behind L before rows → Behind M before rows
Behind-both K L M before [] f h k = tt
Behind-both K L M before (row ∷ rows) f h k = (f before row h.0 k.0, Behind-both K L M (before ++ row ∷ []) rows f h.1 k.1)

-- what does not depend on the rows before
each_row : {A : Type 0} (P : A → Type 0) (before rows : List A) → Behind (λ b x. P x) before rows → Each P rows
each_row P before [] h = tt
each_row P before (row ∷ rows) h = (h.0, each_row P (before ++ row ∷ []) rows h.1)

behind_each : {A : Type 0} (P : A → Type 0) (before rows : List A) → Each P rows → Behind (λ b x. P x) before rows
behind_each P before [] h = tt
behind_each P before (row ∷ rows) h = (h.0, behind_each P (before ++ row ∷ []) rows h.1)

pub All-from_Behind : {A : Type 0} (P : A → Type 0) (rows : List A) → Behind (λ b x. P x) [] rows → All P rows
All-from_Behind P rows h = All-from_Each P rows (each_row P [] rows h)

pub Behind-from_All : {A : Type 0} (P : A → Type 0) (rows : List A) → All P rows → Behind (λ b x. P x) [] rows
Behind-from_All P rows h = behind_each P [] rows (Each-from_All P rows h)

-- the relation holds of each row and each later one
abbrev Pairs : {A : Type 0} → (A → A → Type 0) → List A → Type 0
Pairs R [] = Unit {0}
Pairs R (row ∷ rows) = Each (R row) rows × Pairs R rows

Pairs-from : {A : Type 0} (R : A → A → Type 0) (rows : List A) → AllPairs R rows → Pairs R rows
Pairs-from R [] h = tt
Pairs-from R (row ∷ rows) h = (
  Each-from_All (R row) rows (λ k d low. h 0 (suc k) d (omega arith) (omega (arith, low))),
  Pairs-from R rows (λ i j d low high. h (suc i) (suc j) d (omega (arith, low)) (omega (arith, high))),
)

AllPairs-from : {A : Type 0} (R : A → A → Type 0) (rows : List A) → Pairs R rows → AllPairs R rows
AllPairs-from R [] h = λ i j d low high. absurd (omega (arith, high))
AllPairs-from R (row ∷ rows) h = AllPairs-cons R row rows (All-from_Each (R row) rows h.0) (AllPairs-from R rows h.1)

-- a test of a row and the one before it, that carries over
abbrev pub CarriesOver : {A : Type 0} → (A → A → Bool) → Type 0
CarriesOver {A} test = (x y z : A) → test x y ≡ true → test y z ≡ true → test x z ≡ true

abbrev pub IsBehindLast : {A : Type 0} → (A → A → Bool) → List A → A → Type 0
IsBehindLast test before x = last_passes (λ r. test r x) before ≡ true

last_is : {A : Type 0} (test : A → Bool) (before : List A) (row : A) → last_passes test (before ++ row ∷ []) ≡ test row
last_is test [] row = refl
last_is test (r ∷ []) row = refl
last_is test (r ∷ next ∷ before) row = last_is test (next ∷ before) row

all_above : {A : Type 0} (test : A → A → Bool) (before : List A) (row : A) (rows : List A) → CarriesOver test → Behind (IsBehindLast test) (before ++ row ∷ []) rows → Each (λ s. test row s ≡ true) rows
all_above test before row [] over h = tt
all_above test before row (next ∷ rows) over h =
    let above : test row next ≡ true = sym (last_is (λ r. test r next) before row) ∙ h.0 in
    (above, Each-mono (λ s. test next s ≡ true) (λ s. test row s ≡ true) rows (λ s k. over row next s above k) (all_above test (before ++ row ∷ []) next rows over h.1))

climbing : {A : Type 0} (test : A → A → Bool) (before rows : List A) → CarriesOver test → Behind (IsBehindLast test) before rows → Pairs (λ r s. test r s ≡ true) rows
climbing test before [] over h = tt
climbing test before (row ∷ rows) over h = (all_above test before row rows over h.1, climbing test (before ++ row ∷ []) rows over h.1)

pub pairs_climb : {A : Type 0} (test : A → A → Bool) (rows : List A) → CarriesOver test → Behind (IsBehindLast test) [] rows → AllPairs (λ (r s : A). test r s ≡ true) rows
pairs_climb test rows over h = AllPairs-from (λ r s. test r s ≡ true) rows (climbing test [] rows over h)

behind_last : {A : Type 0} (test : A → A → Bool) (before rows : List A) → Each (IsBehindLast test before) rows → Pairs (λ r s. test r s ≡ true) rows → Behind (IsBehindLast test) before rows
behind_last test before [] first h = tt
behind_last test before (row ∷ rows) first h =
    let later = Each-mono (λ s. test row s ≡ true) (IsBehindLast test (before ++ row ∷ [])) rows (λ s k. last_is (λ r. test r s) before row ∙ k) h.0 in
    (first.0, behind_last test (before ++ row ∷ []) rows later h.1)

all_behind_none : {A : Type 0} (test : A → A → Bool) (rows : List A) → Each (IsBehindLast test []) rows
all_behind_none test [] = tt
all_behind_none test (row ∷ rows) = (refl, all_behind_none test rows)

pub climb_behind : {A : Type 0} (test : A → A → Bool) (rows : List A) → AllPairs (λ (r s : A). test r s ≡ true) rows → Behind (IsBehindLast test) [] rows
climb_behind test rows h = behind_last test [] rows (all_behind_none test rows) (Pairs-from (λ r s. test r s ≡ true) rows h)

-- no row before is like this one
abbrev pub IsNew : {A : Type 0} → (A → A → Bool) → List A → A → Type 0
IsNew like before x = not (list_any (like x) before) ≡ true

none_from : (b : Bool) → not b ≡ true → b ≡ false
none_from true h = absurd cc
none_from false h = refl

each_front : {A : Type 0} (P : A → Type 0) (xs ys : List A) → Each P (xs ++ ys) → Each P xs
each_front P [] ys h = tt
each_front P (x ∷ xs) ys h = (h.0, each_front P xs ys h.1)

each_last : {A : Type 0} (P : A → Type 0) (xs : List A) (y : A) → Each P (xs ++ y ∷ []) → P y
each_last P [] y h = h.0
each_last P (x ∷ xs) y h = each_last P xs y h.1

unlike_before : {A : Type 0} (like : A → A → Bool) (before rows : List A) → Behind (IsNew like) before rows → Each (λ s. Each (λ r. like s r ≡ false) before) rows
unlike_before like before [] h = tt
unlike_before like before (row ∷ rows) h = (
  none_of (like row) before (none_from (list_any (like row) before) h.0),
  Each-mono (λ s. Each (λ r. like s r ≡ false) (before ++ row ∷ [])) (λ s. Each (λ r. like s r ≡ false) before) rows (λ s k. each_front (λ r. like s r ≡ false) before (row ∷ []) k)
      (unlike_before like (before ++ row ∷ []) rows h.1),
)

differing : {A : Type 0} (like : A → A → Bool) (before rows : List A) → Behind (IsNew like) before rows → Pairs (λ r s. like s r ≡ false) rows
differing like before [] h = tt
differing like before (row ∷ rows) h = (
  Each-mono (λ s. Each (λ r. like s r ≡ false) (before ++ row ∷ [])) (λ s. like s row ≡ false) rows (λ s k. each_last (λ r. like s r ≡ false) before row k) (unlike_before like (before ++ row ∷ []) rows h.1),
  differing like (before ++ row ∷ []) rows h.1,
)

pub pairs_differ : {A : Type 0} (like : A → A → Bool) (rows : List A) → Behind (IsNew like) [] rows → AllPairs (λ (r s : A). like s r ≡ false) rows
pairs_differ like rows h = AllPairs-from (λ r s. like s r ≡ false) rows (differing like [] rows h)

behind_unlike : {A : Type 0} (like : A → A → Bool) (before rows : List A) → Each (λ s. list_any (like s) before ≡ false) rows → Pairs (λ r s. like s r ≡ false) rows → Behind (IsNew like) before rows
behind_unlike like before [] new h = tt
behind_unlike like before (row ∷ rows) new h = (ap not new.0, behind_unlike like (before ++ row ∷ []) rows (still_new like before row rows new.1 h.0) h.1)
  where
    still_new : {A : Type 0} (like : A → A → Bool) (before : List A) (row : A) (rows : List A) → Each (λ s. list_any (like s) before ≡ false) rows → Each (λ s. like s row ≡ false) rows
        → Each (λ s. list_any (like s) (before ++ row ∷ []) ≡ false) rows
    still_new like before row [] new apart = tt
    still_new like before row (s ∷ rows) new apart = (list_any-last_fails (like s) before row apart.0 ∙ new.0, still_new like before row rows new.1 apart.1)

all_new : {A : Type 0} (like : A → A → Bool) (rows : List A) → Each (λ s. list_any (like s) [] ≡ false) rows
all_new like [] = tt
all_new like (row ∷ rows) = (refl, all_new like rows)

pub differ_behind : {A : Type 0} (like : A → A → Bool) (rows : List A) → AllPairs (λ (r s : A). like s r ≡ false) rows → Behind (IsNew like) [] rows
differ_behind like rows h = behind_unlike like [] rows (all_new like rows) (Pairs-from (λ r s. like s r ≡ false) rows h)

-- the numbers run from this one without a gap
abbrev RunsFrom : ℕ → List ℕ → Type 0
RunsFrom from numbers = numbers ≡ range_with_len from (length numbers)

run_more : (from n : ℕ) (numbers : List ℕ) → n ≡ from → RunsFrom (from + 1) numbers → RunsFrom from (n ∷ numbers)
run_more from n numbers is run = (λ i. is i ∷ run i)

run_parts : (from n : ℕ) (numbers : List ℕ) → RunsFrom from (n ∷ numbers) → (n ≡ from) × RunsFrom (from + 1) numbers
run_parts from n numbers run = (cc, cc)

one_longer : {A : Type 0} (before : List A) (row : A) → length (before ++ row ∷ []) ≡ length before + 1
one_longer before row = length-append before (row ∷ [])

-- each row has the next number
abbrev pub IsNext : {A : Type 0} → (A → ℕ) → List A → A → Type 0
IsNext number before x = is_next (length before) (number x) ≡ true

running : {A : Type 0} (number : A → ℕ) (before rows : List A) → Behind (IsNext number) before rows → RunsFrom (length before + 1) (map number rows)
running number before [] h = refl
running number before (row ∷ rows) h =
    run_more (length before + 1) (number row) (map number rows) (eqb-true (number row) (length before + 1) h.0)
    (subst (λ n. RunsFrom (n + 1) (map number rows)) (one_longer before row) (running number (before ++ row ∷ []) rows h.1))

pub numbers_run : {A : Type 0} (number : A → ℕ) (rows : List A) → Behind (IsNext number) [] rows → RunFromOne (map number rows)
numbers_run number rows h = running number [] rows h

behind_next : {A : Type 0} (number : A → ℕ) (before rows : List A) → RunsFrom (length before + 1) (map number rows) → Behind (IsNext number) before rows
behind_next number before [] h = tt
behind_next number before (row ∷ rows) h =
    let parts = run_parts (length before + 1) (number row) (map number rows) h in
    (eq-eqb (number row) (length before + 1) parts.0, behind_next number (before ++ row ∷ []) rows (subst (λ n. RunsFrom (n + 1) (map number rows)) (sym (one_longer before row)) parts.1))

pub run_behind : {A : Type 0} (number : A → ℕ) (rows : List A) → RunFromOne (map number rows) → Behind (IsNext number) [] rows
run_behind number rows h = behind_next number [] rows h

-- each row has the next number of its group
abbrev own : {A : Type 0} → (A → ℕ) → ℕ → List A → ℕ
own group g rows = count_by (λ x. group x == g) rows

abbrev pub IsNextInGroup : {A : Type 0} → (A → ℕ) → (A → ℕ) → List A → A → Type 0
IsNextInGroup group number before x = is_next (count_by (λ k. group k == group x) before) (number x) ≡ true

abbrev numbers_of : {A : Type 0} → (A → ℕ) → (A → ℕ) → ℕ → List A → List ℕ
numbers_of group number g rows = map number (filter (λ x. group x == g) rows)

own_more : {A : Type 0} (group : A → ℕ) (g : ℕ) (before : List A) (row : A) → (group row == g) ≡ true → own group g (before ++ row ∷ []) ≡ own group g before + 1
own_more {A} group g before row t = sum_by_push (λ (x : A). cond (group x == g) 1 0) before row ∙ ap (λ n. own group g before + n) (cond-true {A = ℕ} (group row == g) 1 0 t)

own_same : {A : Type 0} (group : A → ℕ) (g : ℕ) (before : List A) (row : A) → (group row == g) ≡ false → own group g (before ++ row ∷ []) ≡ own group g before
own_same {A} group g before row t = sum_by_push (λ (x : A). cond (group x == g) 1 0) before row ∙ ap (λ n. own group g before + n) (cond-false {A = ℕ} (group row == g) 1 0 t) ∙ (omega arith)

of_group : {A : Type 0} (group number : A → ℕ) (g : ℕ) (row : A) (rows : List A) → (group row == g) ≡ true → numbers_of group number g (row ∷ rows) ≡ number row ∷ numbers_of group number g rows
of_group {A} group number g row rows t = ap (map number) (cond-true (group row == g) (row ∷ filter (λ (x : A). group x == g) rows) (filter (λ (x : A). group x == g) rows) t)

of_other : {A : Type 0} (group number : A → ℕ) (g : ℕ) (row : A) (rows : List A) → (group row == g) ≡ false → numbers_of group number g (row ∷ rows) ≡ numbers_of group number g rows
of_other {A} group number g row rows t = ap (map number) (cond-false (group row == g) (row ∷ filter (λ (x : A). group x == g) rows) (filter (λ (x : A). group x == g) rows) t)

group_running : {A : Type 0} (group number : A → ℕ) (g : ℕ) (before rows : List A) → Behind (IsNextInGroup group number) before rows → RunsFrom (own group g before + 1) (numbers_of group number g rows)
group_running group number g before [] h = refl
group_running group number g before (row ∷ rows) h =
    let rest = group_running group number g (before ++ row ∷ []) rows h.1 in
    elim (cases_Bool (group row == g)) [
      | inl t ↦
          let is : number row ≡ own group g before + 1 =
          subst (λ k. number row ≡ own group k before + 1) (eqb-true (group row) g t) (eqb-true (number row) (own group (group row) before + 1) h.0) in
          subst (RunsFrom (own group g before + 1)) (sym (of_group group number g row rows t))
          (run_more (own group g before + 1) (number row) (numbers_of group number g rows) is (subst (λ n. RunsFrom (n + 1) (numbers_of group number g rows)) (own_more group g before row t) rest))
      | inr t ↦
          subst (RunsFrom (own group g before + 1)) (sym (of_other group number g row rows t))
          (subst (λ n. RunsFrom (n + 1) (numbers_of group number g rows)) (own_same group g before row t) rest)
    ]

pub groups_run : {A : Type 0} (group number : A → ℕ) (g : ℕ) (rows : List A) → Behind (IsNextInGroup group number) [] rows → RunFromOne (map number (filter (λ (x : A). group x == g) rows))
groups_run group number g rows h = group_running group number g [] rows h

behind_in_group : {A : Type 0} (group number : A → ℕ) (before rows : List A) → ((g : ℕ) → RunsFrom (own group g before + 1) (numbers_of group number g rows)) → Behind (IsNextInGroup group number) before rows
behind_in_group group number before [] h = tt
behind_in_group group number before (row ∷ rows) h =
    let g = group row in
    let first = subst (RunsFrom (own group g before + 1)) (of_group group number g row rows (eq-eqb g g refl)) (h g) in (
      eq-eqb (number row) (own group g before + 1) (run_parts (own group g before + 1) (number row) (numbers_of group number g rows) first).0,
      behind_in_group group number (before ++ row ∷ []) rows (λ k. later group number k before row rows (h k)),
    )
  where
    later : {A : Type 0} (group number : A → ℕ) (g : ℕ) (before : List A) (row : A) (rows : List A) → RunsFrom (own group g before + 1) (numbers_of group number g (row ∷ rows))
        → RunsFrom (own group g (before ++ row ∷ []) + 1) (numbers_of group number g rows)
    later group number g before row rows run =
        elim (cases_Bool (group row == g)) [
          | inl t ↦
              subst (λ n. RunsFrom (n + 1) (numbers_of group number g rows)) (sym (own_more group g before row t))
              (run_parts (own group g before + 1) (number row) (numbers_of group number g rows) (subst (RunsFrom (own group g before + 1)) (of_group group number g row rows t) run)).1
          | inr t ↦
              subst (λ n. RunsFrom (n + 1) (numbers_of group number g rows)) (sym (own_same group g before row t))
              (subst (RunsFrom (own group g before + 1)) (of_other group number g row rows t) run)
        ]

pub groups_behind : {A : Type 0} (group number : A → ℕ) (rows : List A) → ((g : ℕ) → RunFromOne (map number (filter (λ (x : A). group x == g) rows))) → Behind (IsNextInGroup group number) [] rows
groups_behind group number rows h = behind_in_group group number [] rows h

-- there is room for each row
abbrev pub HasPlace : {A : Type 0} → ℕ → List A → A → Type 0
HasPlace limit before x = has_place limit (length before) ≡ true

room_for : (n limit : ℕ) → nat_lt n limit ≡ true → n < limit
room_for n limit h = grind (arith, nat_tests)

has_room : (n limit : ℕ) → n < limit → nat_lt n limit ≡ true
has_room n limit h = grind (arith, nat_tests)

fitting : {A : Type 0} (limit : ℕ) (before rows : List A) → length before ≤ limit → Behind (HasPlace limit) before rows → length before + length rows ≤ limit
fitting limit before [] fits h = omega (arith, fits)
fitting limit before (row ∷ rows) fits h =
    let lower = room_for (length before) limit h.0 in
    omega (arith, fitting limit (before ++ row ∷ []) rows (omega (arith, one_longer before row, lower)) h.1, one_longer before row)

pub rows_fit : {A : Type 0} (limit : ℕ) (rows : List A) → Behind (HasPlace limit) [] rows → length rows ≤ limit
rows_fit limit rows h = omega (arith, fitting limit [] rows (omega arith) h)

behind_with_place : {A : Type 0} (limit : ℕ) (before rows : List A) → length before + length rows ≤ limit → Behind (HasPlace limit) before rows
behind_with_place limit before [] h = tt
behind_with_place limit before (row ∷ rows) h =
    let lower : length before < limit = omega (arith, h) in
    (has_room (length before) limit lower, behind_with_place limit (before ++ row ∷ []) rows (omega (arith, h, one_longer before row)))

pub fit_behind : {A : Type 0} (limit : ℕ) (rows : List A) → length rows ≤ limit → Behind (HasPlace limit) [] rows
fit_behind limit rows h = behind_with_place limit [] rows (omega (arith, h))

-- there is room for each row in its group
abbrev pub HasPlaceInGroup : {A : Type 0} → (A → ℕ) → ℕ → List A → A → Type 0
HasPlaceInGroup group limit before x = has_place limit (count_by (λ k. group k == group x) before) ≡ true

own_first : {A : Type 0} (group : A → ℕ) (g : ℕ) (row : A) (rows : List A) → (group row == g) ≡ true → own group g (row ∷ rows) ≡ 1 + own group g rows
own_first {A} group g row rows t = sum_by-cons (λ (x : A). cond (group x == g) 1 0) row rows ∙ ap (λ n. n + own group g rows) (cond-true {A = ℕ} (group row == g) 1 0 t)

own_rest : {A : Type 0} (group : A → ℕ) (g : ℕ) (row : A) (rows : List A) → (group row == g) ≡ false → own group g (row ∷ rows) ≡ own group g rows
own_rest {A} group g row rows t = sum_by-cons (λ (x : A). cond (group x == g) 1 0) row rows ∙ ap (λ n. n + own group g rows) (cond-false {A = ℕ} (group row == g) 1 0 t) ∙ (omega arith)

group_fitting : {A : Type 0} (group : A → ℕ) (limit g : ℕ) (before rows : List A) → own group g before ≤ limit → Behind (HasPlaceInGroup group limit) before rows → own group g before + own group g rows ≤ limit
group_fitting group limit g before [] fits h = omega (arith, fits)
group_fitting group limit g before (row ∷ rows) fits h =
    elim (cases_Bool (group row == g)) [
      | inl t ↦
          let lower : own group g before < limit = room_for (own group g before) limit (subst (λ k. nat_lt (own group k before) limit ≡ true) (eqb-true (group row) g t) h.0) in
          let more = own_more group g before row t in
          omega (arith, group_fitting group limit g (before ++ row ∷ []) rows (omega (arith, more, lower)) h.1, more, own_first group g row rows t)
      | inr t ↦
          let same = own_same group g before row t in
          omega (arith, group_fitting group limit g (before ++ row ∷ []) rows (omega (arith, same, fits)) h.1, same, own_rest group g row rows t)
    ]

pub groups_fit : {A : Type 0} (group : A → ℕ) (limit g : ℕ) (rows : List A) → Behind (HasPlaceInGroup group limit) [] rows → count_by (λ (x : A). group x == g) rows ≤ limit
groups_fit group limit g rows h = omega (arith, group_fitting group limit g [] rows (omega arith) h)

behind_in_room : {A : Type 0} (group : A → ℕ) (limit : ℕ) (before rows : List A) → ((g : ℕ) → own group g before + own group g rows ≤ limit) → Behind (HasPlaceInGroup group limit) before rows
behind_in_room group limit before [] h = tt
behind_in_room group limit before (row ∷ rows) h =
    let g = group row in (
      has_room (own group g before) limit (omega (arith, h g, own_first group g row rows (eq-eqb g g refl))),
      behind_in_room group limit (before ++ row ∷ []) rows (λ k. later group limit k before row rows (h k)),
    )
  where
    later : {A : Type 0} (group : A → ℕ) (limit g : ℕ) (before : List A) (row : A) (rows : List A) → own group g before + own group g (row ∷ rows) ≤ limit
        → own group g (before ++ row ∷ []) + own group g rows ≤ limit
    later group limit g before row rows fits =
        elim (cases_Bool (group row == g)) [
          | inl t ↦ omega (arith, fits, own_more group g before row t, own_first group g row rows t)
          | inr t ↦ omega (arith, fits, own_same group g before row t, own_rest group g row rows t)
        ]

pub room_behind : {A : Type 0} (group : A → ℕ) (limit : ℕ) (rows : List A) → ((g : ℕ) → count_by (λ (x : A). group x == g) rows ≤ limit) → Behind (HasPlaceInGroup group limit) [] rows
room_behind group limit rows h = behind_in_room group limit [] rows (λ g. omega (arith, h g))
