-- The order of keys, and rows that are put by their keys.
use Rattle.std.proofs.Common.{◌≡◌, ℕ, ◌+◌, ◌≤◌, ◌⊎◌, length, Bool, true, false, ◌==◌, ◌||◌, cond, ◌&&◌, inl, inr, List, [], ◌∷◌, ◌++◌, find, Option, Some, is_some, refl, sym, ap, subst, ◌∙◌, arith}
use Rattle.std.specs.Prelude.{nat_lt}
use Rattle.std.specs.List.{list_any, sum_by}
use Rattle.std.proofs.lemmas.Bool.{cases_Bool, cond-true, cond-false, both_ways}
use Rattle.std.proofs.lemmas.Bool.Decides.{nat_tests}
use Rattle.std.proofs.lemmas.List.Sums.{sum_by-cons}
use Rattle.std.proofs.lemmas.Option.{same_Some}
use Rattle.std.proofs.lemmas.Slice.Eq.{bytes_eq-Decides}
use Rattle.desk_types.specs.Keys.{is_less_key, is_same_key}
use Rattle.desk_types.specs.Tables.{has_key, inserted, put_row, replaced}
use Rattle.desk_types.proofs.EachRow.{Each, Each-mono}

-- first by the smaller number
lower_trans : (x y z : ℕ) (p q r : Bool) → (p ≡ true → q ≡ true → r ≡ true) → (nat_lt x y || (x == y && p)) ≡ true → (nat_lt y z || (y == z && q)) ≡ true → (nat_lt x z || (x == z && r)) ≡ true
lower_trans x y z p q r then h k = grind (arith, nat_tests)

lower_irreflexive : (x : ℕ) (p : Bool) → p ≡ false → (nat_lt x x || (x == x && p)) ≡ false
lower_irreflexive x p h = grind (arith, nat_tests)

lower_total : (x y : ℕ) (p q same : Bool) → ((p ≡ false) → (q ≡ false) → same ≡ true) → (x == y && same) ≡ false → (nat_lt x y || (x == y && p)) ≡ false → (nat_lt y x || (y == x && q)) ≡ true
lower_total x y p q same then h k = grind (arith, nat_tests)

pub less-irreflexive : (k : List ℕ) → is_less_key k k ≡ false
less-irreflexive [] = refl
less-irreflexive (x ∷ k) = lower_irreflexive x (is_less_key k k) (less-irreflexive k)

pub less-trans : (a b c : List ℕ) → is_less_key a b ≡ true → is_less_key b c ≡ true → is_less_key a c ≡ true
less-trans [] [] c h k = absurd cc
less-trans [] (y ∷ b) [] h k = absurd cc
less-trans [] (y ∷ b) (z ∷ c) h k = refl
less-trans (x ∷ a) [] c h k = absurd cc
less-trans (x ∷ a) (y ∷ b) [] h k = absurd cc
less-trans (x ∷ a) (y ∷ b) (z ∷ c) h k = lower_trans x y z (is_less_key a b) (is_less_key b c) (is_less_key a c) (less-trans a b c) h k

-- of two different keys the one is less, or the other
pub less-total : (a b : List ℕ) → is_same_key a b ≡ false → is_less_key a b ≡ false → is_less_key b a ≡ true
less-total [] [] h k = absurd cc
less-total [] (y ∷ b) h k = absurd cc
less-total (x ∷ a) [] h k = refl
less-total (x ∷ a) (y ∷ b) h k =
    lower_total x y (is_less_key a b) (is_less_key b a) (is_same_key a b) (λ p q. elim (cases_Bool (is_same_key a b)) [
      | inl t ↦ t
      | inr t ↦ absurd (both_ways _ q (less-total a b t p))
    ]) h k

pub less-asym : (a b : List ℕ) → is_less_key a b ≡ true → is_less_key b a ≡ true → ⊥
less-asym a b h k = both_ways _ (less-irreflexive a) (less-trans a b a h k)

pub same_key : (a b : List ℕ) → is_same_key a b ≡ true → a ≡ b
same_key a b = (bytes_eq-Decides a b).0

pub key_same : (a b : List ℕ) → a ≡ b → is_same_key a b ≡ true
key_same a b = (bytes_eq-Decides a b).1

pub less-other : (a b : List ℕ) → is_same_key a b ≡ false → is_less_key b a ≡ false → is_less_key a b ≡ true
less-other a b h k =
    elim (cases_Bool (is_same_key b a)) [
      | inl t ↦ absurd (both_ways _ h (key_same a b (sym (same_key b a t))))
      | inr t ↦ less-total b a t k
    ]

-- a choice of lists
Each-cond : {A : Type 0} (P : A → Type 0) (b : Bool) (xs ys : List A) → Each P xs → Each P ys → Each P (cond b xs ys)
Each-cond P true xs ys h k = h
Each-cond P false xs ys h k = k

pub neither : (a b : Bool) → (a || b) ≡ false → (a ≡ false) × (b ≡ false)
neither false b h = (refl, h)
neither true b h = absurd cc

pub none_of : {A : Type 0} (p : A → Bool) (xs : List A) → list_any p xs ≡ false → Each (λ x. p x ≡ false) xs
none_of p [] h = tt
none_of p (x ∷ xs) h = let parts = neither (p x) (list_any p xs) h in (parts.0, none_of p xs parts.1)

pub put_there : {A : Type 0} (key : A → List ℕ) (row : A) (rows : List A) → has_key key (key row) rows ≡ true → put_row key row rows ≡ replaced key row rows
unfolding put_row
put_there key row rows h = cond-true _ _ _ h

pub put_new : {A : Type 0} (key : A → List ℕ) (row : A) (rows : List A) → has_key key (key row) rows ≡ false → put_row key row rows ≡ inserted key row rows
unfolding put_row
put_new key row rows h = cond-false _ _ _ h

-- what holds of each row, and of the row that is put
Each-replaced : {A : Type 0} (P : A → Type 0) (key : A → List ℕ) (row : A) (rows : List A) → ((s : A) → is_same_key (key s) (key row) ≡ true → P s → P row) → Each P rows → Each P (replaced key row rows)
Each-replaced P key row [] f h = tt
Each-replaced P key row (r ∷ rows) f h =
    elim (cases_Bool (is_same_key (key r) (key row))) [
      | inl t ↦ subst (Each P) (sym (cond-true _ _ _ t)) (f r t h.0, h.1)
      | inr t ↦ subst (Each P) (sym (cond-false _ _ _ t)) (h.0, Each-replaced P key row rows f h.1)
    ]

pub Each-inserted : {A : Type 0} (P : A → Type 0) (key : A → List ℕ) (row : A) (rows : List A) → P row → Each P rows → Each P (inserted key row rows)
Each-inserted P key row [] is h = (is, tt)
Each-inserted P key row (r ∷ rows) is h = Each-cond P (is_less_key (key row) (key r)) _ _ (is, h) (h.0, Each-inserted P key row rows is h.1)

pub Each-put : {A : Type 0} (P : A → Type 0) (key : A → List ℕ) (row : A) (rows : List A) → P row → Each P rows → Each P (put_row key row rows)
unfolding put_row
Each-put P key row rows is h =
    Each-cond P (has_key key (key row) rows) _ _ (Each-replaced P key row rows (λ s e k. is) h) (Each-inserted P key row rows is h)

-- the key of each row is less than those of the rows behind it
abbrev pub Ordered : {A : Type 0} → (A → List ℕ) → List A → Type 0
Ordered key [] = Unit {0}
Ordered key (r ∷ rows) = Each (λ s. is_less_key (key r) (key s) ≡ true) rows × Ordered key rows

Ordered-replaced : {A : Type 0} (key : A → List ℕ) (row : A) (rows : List A) → Ordered key rows → Ordered key (replaced key row rows)
Ordered-replaced key row [] h = tt
Ordered-replaced key row (r ∷ rows) h =
    elim (cases_Bool (is_same_key (key r) (key row))) [
      | inl t ↦
          subst (Ordered key) (sym (cond-true _ _ _ t))
          (Each-mono (λ s. is_less_key (key r) (key s) ≡ true) (λ s. is_less_key (key row) (key s) ≡ true) rows (λ s l. subst (λ k. is_less_key k (key s) ≡ true) (same_key _ _ t) l) h.0, h.1)
      | inr t ↦
          subst (Ordered key) (sym (cond-false _ _ _ t))
          (Each-replaced (λ s. is_less_key (key r) (key s) ≡ true) key row rows (λ s e l. subst (λ k. is_less_key (key r) k ≡ true) (same_key _ _ e) l) h.0, Ordered-replaced key row rows h.1)
    ]

Ordered-inserted : {A : Type 0} (key : A → List ℕ) (row : A) (rows : List A) → Each (λ s. is_same_key (key s) (key row) ≡ false) rows → Ordered key rows → Ordered key (inserted key row rows)
Ordered-inserted key row [] none h = (tt, tt)
Ordered-inserted key row (r ∷ rows) none h =
    elim (cases_Bool (is_less_key (key row) (key r))) [
      | inl t ↦
          subst (Ordered key) (sym (cond-true _ _ _ t))
          ((t, Each-mono (λ s. is_less_key (key r) (key s) ≡ true) (λ s. is_less_key (key row) (key s) ≡ true) rows (λ s l. less-trans (key row) (key r) (key s) t l) h.0), h)
      | inr t ↦
          subst (Ordered key) (sym (cond-false _ _ _ t))
          (Each-inserted (λ s. is_less_key (key r) (key s) ≡ true) key row rows (less-other (key r) (key row) none.0 t) h.0, Ordered-inserted key row rows none.1 h.1)
    ]

pub Ordered-put : {A : Type 0} (key : A → List ℕ) (row : A) (rows : List A) → Ordered key rows → Ordered key (put_row key row rows)
Ordered-put key row rows h =
    elim (cases_Bool (has_key key (key row) rows)) [
      | inl t ↦ subst (Ordered key) (sym (put_there key row rows t)) (Ordered-replaced key row rows h)
      | inr t ↦ subst (Ordered key) (sym (put_new key row rows t)) (Ordered-inserted key row rows (none_of (λ r. is_same_key (key r) (key row)) rows t) h)
    ]

pub not-same : (a b : List ℕ) → is_less_key a b ≡ true → is_same_key a b ≡ false
not-same a b h =
    elim (cases_Bool (is_same_key a b)) [
      | inl t ↦ absurd (both_ways _ (less-irreflexive a) (subst (λ k. is_less_key a k ≡ true) (sym (same_key a b t)) h))
      | inr t ↦ t
    ]

not-less : (a b : List ℕ) → is_less_key a b ≡ true → is_less_key b a ≡ false
not-less a b h =
    elim (cases_Bool (is_less_key b a)) [ inl t ↦ absurd (less-asym a b h t) | inr t ↦ t ]

none_there : {A : Type 0} (key : A → List ℕ) (row : A) (rows : List A) → Each (λ r. is_less_key (key r) (key row) ≡ true) rows → has_key key (key row) rows ≡ false
none_there key row [] h = refl
none_there key row (r ∷ rows) h = (λ i. not-same (key r) (key row) h.0 i || none_there key row rows h.1 i)

inserted_last : {A : Type 0} (key : A → List ℕ) (row : A) (rows : List A) → Each (λ r. is_less_key (key r) (key row) ≡ true) rows → inserted key row rows ≡ rows ++ row ∷ []
inserted_last key row [] h = refl
inserted_last key row (r ∷ rows) h = cond-false _ _ _ (not-less (key r) (key row) h.0) ∙ ap (λ l. r ∷ l) (inserted_last key row rows h.1)

-- a row that is greater than all goes last
pub put_last : {A : Type 0} (key : A → List ℕ) (row : A) (rows : List A) → Each (λ r. is_less_key (key r) (key row) ≡ true) rows → put_row key row rows ≡ rows ++ row ∷ []
put_last key row rows h = put_new key row rows (none_there key row rows h) ∙ inserted_last key row rows h

-- a test that the row fails, and each row of its key
abbrev Misses : {A : Type 0} → (A → List ℕ) → A → (A → Bool) → Type 0
Misses {A} key row test = (x : A) → is_same_key (key x) (key row) ≡ true → test x ≡ false

missed : {A : Type 0} (key : A → List ℕ) (row : A) (test : A → Bool) → Misses key row test → test row ≡ false
missed key row test misses = misses row (key_same (key row) (key row) refl)

find-replaced : {A : Type 0} (key : A → List ℕ) (row : A) (test : A → Bool) (rows : List A) → Misses key row test → find test (replaced key row rows) ≡ find test rows
find-replaced key row test [] misses = refl
find-replaced key row test (r ∷ rows) misses =
    elim (cases_Bool (is_same_key (key r) (key row))) [
      | inl t ↦
          ap (find test) (cond-true _ _ _ t) ∙ cond-false (test row) _ _ (missed key row test misses)
          ∙ sym (cond-false (test r) _ _ (misses r t))
      | inr t ↦ ap (find test) (cond-false _ _ _ t) ∙ ap (λ o. cond (test r) (Some r) o) (find-replaced key row test rows misses)
    ]

find-inserted : {A : Type 0} (key : A → List ℕ) (row : A) (test : A → Bool) (rows : List A) → test row ≡ false → find test (inserted key row rows) ≡ find test rows
find-inserted key row test [] fails = cond-false (test row) _ _ fails
find-inserted key row test (r ∷ rows) fails =
    elim (cases_Bool (is_less_key (key row) (key r))) [
      | inl t ↦ ap (find test) (cond-true _ _ _ t) ∙ cond-false (test row) _ _ fails
      | inr t ↦ ap (find test) (cond-false _ _ _ t) ∙ ap (λ o. cond (test r) (Some r) o) (find-inserted key row test rows fails)
    ]

pub find-put_other : {A : Type 0} (key : A → List ℕ) (row : A) (test : A → Bool) (rows : List A) → Misses key row test → find test (put_row key row rows) ≡ find test rows
find-put_other key row test rows misses =
    elim (cases_Bool (has_key key (key row) rows)) [
      | inl t ↦ ap (find test) (put_there key row rows t) ∙ find-replaced key row test rows misses
      | inr t ↦ ap (find test) (put_new key row rows t) ∙ find-inserted key row test rows (missed key row test misses)
    ]

-- a test that finds rows by this key
abbrev pub FindsKey : {A : Type 0} → (A → List ℕ) → List ℕ → (A → Bool) → Type 0
FindsKey {A} key wanted test = (x : A) → test x ≡ is_same_key (key x) wanted

found_itself : {A : Type 0} (key : A → List ℕ) (row : A) (test : A → Bool) → FindsKey key (key row) test → test row ≡ true
found_itself key row test by = by row ∙ key_same (key row) (key row) refl

find-replaced_same : {A : Type 0} (key : A → List ℕ) (row : A) (test : A → Bool) (rows : List A) → FindsKey key (key row) test → has_key key (key row) rows ≡ true → find test (replaced key row rows) ≡ Some row
find-replaced_same key row test [] by there = absurd cc
find-replaced_same key row test (r ∷ rows) by there =
    elim (cases_Bool (is_same_key (key r) (key row))) [
      | inl t ↦ ap (find test) (cond-true _ _ _ t) ∙ cond-true (test row) _ _ (found_itself key row test by)
      | inr t ↦
          ap (find test) (cond-false _ _ _ t) ∙ cond-false (test r) _ _ (by r ∙ t)
          ∙ find-replaced_same key row test rows by (subst (λ b. (b || has_key key (key row) rows) ≡ true) t there)
    ]

find-inserted_same : {A : Type 0} (key : A → List ℕ) (row : A) (test : A → Bool) (rows : List A) → FindsKey key (key row) test → has_key key (key row) rows ≡ false → find test (inserted key row rows) ≡ Some row
find-inserted_same key row test [] by none = cond-true (test row) _ _ (found_itself key row test by)
find-inserted_same key row test (r ∷ rows) by none =
    let parts = neither (is_same_key (key r) (key row)) (has_key key (key row) rows) none in
    elim (cases_Bool (is_less_key (key row) (key r))) [
      | inl t ↦ ap (find test) (cond-true _ _ _ t) ∙ cond-true (test row) _ _ (found_itself key row test by)
      | inr t ↦
          ap (find test) (cond-false _ _ _ t) ∙ cond-false (test r) _ _ (by r ∙ parts.0)
          ∙ find-inserted_same key row test rows by parts.1
    ]

pub find-put_same : {A : Type 0} (key : A → List ℕ) (row : A) (test : A → Bool) (rows : List A) → FindsKey key (key row) test → find test (put_row key row rows) ≡ Some row
find-put_same key row test rows by =
    elim (cases_Bool (has_key key (key row) rows)) [
      | inl t ↦ ap (find test) (put_there key row rows t) ∙ find-replaced_same key row test rows by t
      | inr t ↦ ap (find test) (put_new key row rows t) ∙ find-inserted_same key row test rows by t
    ]

-- a row with another key than the one that is looked for is missed
pub misses : {A : Type 0} (key : A → List ℕ) (wanted : List ℕ) (row : A) (test : A → Bool) → FindsKey key wanted test → is_same_key (key row) wanted ≡ false → Misses key row test
misses key wanted row test by other x same = by x ∙ subst (λ k. is_same_key k wanted ≡ false) (sym (same_key _ _ same)) other

-- what is found by a key: the row that is put, or what was found before
pub find-put : {A : Type 0} (key : A → List ℕ) (wanted : List ℕ) (row : A) (test : A → Bool) (rows : List A) → FindsKey key wanted test
    → find test (put_row key row rows) ≡ cond (is_same_key (key row) wanted) (Some row) (find test rows)
find-put key wanted row test rows by =
    elim (cases_Bool (is_same_key (key row) wanted)) [
      | inl t ↦
          find-put_same key row test rows (λ x. by x ∙ ap (is_same_key (key x)) (sym (same_key _ _ t)))
          ∙ sym (cond-true _ _ _ t)
      | inr t ↦ find-put_other key row test rows (misses key wanted row test by t) ∙ sym (cond-false _ _ _ t)
    ]

some_cond : {A : Type 0} (b : Bool) (x : A) (o : Option A) → is_some o ≡ true → is_some (cond b (Some x) o) ≡ true
some_cond true x o h = refl
some_cond false x o h = h

-- what is there stays there
pub stays_there : {A : Type 0} (key : A → List ℕ) (wanted : List ℕ) (row : A) (test : A → Bool) (rows : List A) → FindsKey key wanted test → is_some (find test rows) ≡ true
    → is_some (find test (put_row key row rows)) ≡ true
stays_there key wanted row test rows by h = ap is_some (find-put key wanted row test rows by) ∙ some_cond (is_same_key (key row) wanted) row (find test rows) h

-- a test by key finds none where no row has the key
find-has : {A : Type 0} (key : A → List ℕ) (wanted : List ℕ) (test : A → Bool) (rows : List A) → FindsKey key wanted test → has_key key wanted rows ≡ is_some (find test rows)
find-has key wanted test [] by = refl
find-has key wanted test (r ∷ rows) by =
    elim (cases_Bool (is_same_key (key r) wanted)) [
      | inl t ↦ ap (λ b. b || has_key key wanted rows) t ∙ sym (ap is_some (cond-true (test r) (Some r) (find test rows) (by r ∙ t)))
      | inr t ↦
          ap (λ b. b || has_key key wanted rows) t ∙ find-has key wanted test rows by
          ∙ sym (ap is_some (cond-false (test r) (Some r) (find test rows) (by r ∙ t)))
    ]

pub has-find : {A : Type 0} (key : A → List ℕ) (wanted : List ℕ) (test : A → Bool) (rows : List A) → FindsKey key wanted test → has_key key wanted rows ≡ is_some (find test rows)
has-find key wanted test rows by = find-has key wanted test rows by

-- how many rows there are
length-replaced : {A : Type 0} (key : A → List ℕ) (row : A) (rows : List A) → length (replaced key row rows) ≡ length rows
length-replaced key row [] = refl
length-replaced key row (r ∷ rows) =
    elim (cases_Bool (is_same_key (key r) (key row))) [
      | inl t ↦ ap length (cond-true _ (row ∷ rows) (r ∷ replaced key row rows) t)
      | inr t ↦ omega (arith, ap length (cond-false _ (row ∷ rows) (r ∷ replaced key row rows) t), length-replaced key row rows)
    ]

length-inserted : {A : Type 0} (key : A → List ℕ) (row : A) (rows : List A) → length (inserted key row rows) ≡ length rows + 1
length-inserted key row [] = refl
length-inserted key row (r ∷ rows) =
    elim (cases_Bool (is_less_key (key row) (key r))) [
      | inl t ↦ omega (arith, ap length (cond-true _ (row ∷ r ∷ rows) (r ∷ inserted key row rows) t))
      | inr t ↦ omega (arith, ap length (cond-false _ (row ∷ r ∷ rows) (r ∷ inserted key row rows) t), length-inserted key row rows)
    ]

-- a row that is there, or for which there is room, keeps the rows within a limit
pub length-within : {A : Type 0} (key : A → List ℕ) (row : A) (rows : List A) (limit : ℕ) → length rows ≤ limit → (has_key key (key row) rows ≡ true) ⊎ (length rows + 1 ≤ limit)
    → length (put_row key row rows) ≤ limit
length-within key row rows limit fits room =
    elim (cases_Bool (has_key key (key row) rows)) [
      | inl t ↦ omega (arith, ap length (put_there key row rows t), length-replaced key row rows, fits)
      | inr t ↦
          elim room [
            | inl there ↦ absurd (both_ways _ t there)
            | inr more ↦ omega (arith, ap length (put_new key row rows t), length-inserted key row rows, more)
          ]
    ]

-- sums
pub sum-inserted : {A : Type 0} (key : A → List ℕ) (row : A) (f : A → ℕ) (rows : List A) → sum_by f (inserted key row rows) ≡ f row + sum_by f rows
sum-inserted key row f [] = sum_by-cons f row []
sum-inserted key row f (r ∷ rows) =
    elim (cases_Bool (is_less_key (key row) (key r))) [
      | inl t ↦ ap (sum_by f) (cond-true _ _ _ t) ∙ sum_by-cons f row (r ∷ rows)
      | inr t ↦
          ap (sum_by f) (cond-false _ _ _ t) ∙ sum_by-cons f r (inserted key row rows)
          ∙ (omega (arith, sum-inserted key row f rows, sum_by-cons f r rows))
    ]

sum-replaced : {A : Type 0} (key : A → List ℕ) (row old : A) (f : A → ℕ) (test : A → Bool) (rows : List A) → FindsKey key (key row) test → find test rows ≡ Some old
    → sum_by f (replaced key row rows) + f old ≡ sum_by f rows + f row
sum-replaced key row old f test [] by found = absurd cc
sum-replaced key row old f test (r ∷ rows) by found =
    elim (cases_Bool (is_same_key (key r) (key row))) [
      | inl t ↦
          let is : r ≡ old = same_Some r old (sym (cond-true (test r) (Some r) (find test rows) (by r ∙ t)) ∙ found) in
          omega (arith, ap (sum_by f) (cond-true _ (row ∷ rows) (r ∷ replaced key row rows) t), sum_by-cons f row rows, sum_by-cons f r rows, ap f is)
      | inr t ↦
          let later = sum-replaced key row old f test rows by (sym (cond-false (test r) (Some r) (find test rows) (by r ∙ t)) ∙ found) in
          omega (arith, ap (sum_by f) (cond-false _ (row ∷ rows) (r ∷ replaced key row rows) t), sum_by-cons f r (replaced key row rows), sum_by-cons f r rows, later)
    ]

pub sum-put_new : {A : Type 0} (key : A → List ℕ) (row : A) (f : A → ℕ) (rows : List A) → has_key key (key row) rows ≡ false → sum_by f (put_row key row rows) ≡ f row + sum_by f rows
sum-put_new key row f rows none = ap (sum_by f) (put_new key row rows none) ∙ sum-inserted key row f rows

pub sum-put_there : {A : Type 0} (key : A → List ℕ) (row old : A) (f : A → ℕ) (test : A → Bool) (rows : List A) → FindsKey key (key row) test → find test rows ≡ Some old
    → sum_by f (put_row key row rows) + f old ≡ sum_by f rows + f row
sum-put_there key row old f test rows by found =
    ap (λ n. n + f old) (ap (sum_by f) (put_there key row rows (has-find key (key row) test rows by ∙ ap is_some found)))
    ∙ sum-replaced key row old f test rows by found
