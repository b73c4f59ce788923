-- Tables of rows that are kept in groups, one after another: what is found in them, and what is put.
use Rattle.std.proofs.Common.{◌≡◌, ℕ, zero, suc, ◌+◌, ◌<◌, ◌≤◌, Bool, true, false, ◌==◌, ◌&&◌, ◌||◌, if◌then◌else◌, inl, inr, List, [], ◌∷◌, ◌++◌, flat_map, length, find, filter, get_or, set, Some, refl, sym, ap, subst, ◌∙◌, arith, append-nil}
use Rattle.std.specs.List.{list_any}
use Rattle.std.proofs.lemmas.Bool.{cases_Bool, cond-true, cond-false, both_ways, eq-eqb, ne_eqb}
use Rattle.std.proofs.lemmas.List.Elements.{filter-append}
use Rattle.desk_types.specs.Keys.{is_less_key, is_same_key}
use Rattle.desk_types.specs.Tables.{has_key, inserted, put_row, replaced}
use Rattle.desk_types.proofs.EachRow.{Each, Each-append, Each-mono}
use Rattle.desk_types.proofs.Puts.{Ordered, key_same, less-asym, not-same, put_new, put_there, same_key}

-- the rows of the first group have this number, and those of each later group the next one
abbrev pub AreOwned : {G A : Type 0} → (G → List A) → (A → ℕ) → ℕ → List G → Type 0
AreOwned rows_of group n [] = Unit {0}
AreOwned rows_of group n (g ∷ gs) = Each (λ x. group x ≡ n) (rows_of g) × AreOwned rows_of group (n + 1) gs

-- the rows of all groups, from a number on
pub owned_above : {G A : Type 0} (rows_of : G → List A) (group : A → ℕ) (n : ℕ) (gs : List G) → AreOwned rows_of group n gs → Each (λ x. n ≤ group x) (flat_map rows_of gs)
owned_above rows_of group n [] h = tt
owned_above rows_of group n (g ∷ gs) h =
    Each-append (λ x. n ≤ group x) (rows_of g) (flat_map rows_of gs)
    (Each-mono (λ x. group x ≡ n) (λ x. n ≤ group x) (rows_of g) (λ x e. omega (arith, e)) h.0)
    (Each-mono (λ x. n + 1 ≤ group x) (λ x. n ≤ group x) (flat_map rows_of gs) (λ x e. omega (arith, e)) (owned_above rows_of group (n + 1) gs h.1))

pub filter-none : {A : Type 0} (test : A → Bool) (xs : List A) → Each (λ x. test x ≡ false) xs → filter test xs ≡ []
filter-none test [] h = refl
filter-none test (x ∷ xs) h = cond-false (test x) _ _ h.0 ∙ filter-none test xs h.1

pub filter-all : {A : Type 0} (test : A → Bool) (xs : List A) → Each (λ x. test x ≡ true) xs → filter test xs ≡ xs
filter-all test [] h = refl
filter-all test (x ∷ xs) h = cond-true (test x) _ _ h.0 ∙ ap (λ l. x ∷ l) (filter-all test xs h.1)

-- no row is of a group before the first, or behind the last
pub group_before : {G A : Type 0} (rows_of : G → List A) (group : A → ℕ) (n wanted : ℕ) (gs : List G) → AreOwned rows_of group n gs → wanted < n
    → filter (λ x. group x == wanted) (flat_map rows_of gs) ≡ []
group_before rows_of group n wanted gs h low =
    filter-none (λ x. group x == wanted) (flat_map rows_of gs)
    (Each-mono (λ x. n ≤ group x) (λ x. (group x == wanted) ≡ false) (flat_map rows_of gs) (λ x e. ne_eqb (group x) wanted (λ is. omega (arith, e, is, low))) (owned_above rows_of group n gs h))

pub group_behind : {G A : Type 0} (rows_of : G → List A) (group : A → ℕ) (n wanted : ℕ) (gs : List G) → AreOwned rows_of group n gs → n + length gs ≤ wanted
    → filter (λ x. group x == wanted) (flat_map rows_of gs) ≡ []
group_behind rows_of group n wanted [] h high = refl
group_behind rows_of group n wanted (g ∷ gs) h high =
    filter-append (λ x. group x == wanted) (rows_of g) (flat_map rows_of gs)
    ∙ ap (λ l. l ++ filter (λ x. group x == wanted) (flat_map rows_of gs))
    (filter-none (λ x. group x == wanted) (rows_of g) (Each-mono (λ x. group x ≡ n) (λ x. (group x == wanted) ≡ false) (rows_of g) (λ x e. ne_eqb (group x) wanted (λ is. omega (arith, e, is, high))) h.0))
    ∙ group_behind rows_of group (n + 1) wanted gs h.1 (omega (arith, high))

-- the rows of a group
pub group_rows : {G A : Type 0} (rows_of : G → List A) (group : A → ℕ) (n i : ℕ) (gs : List G) (d : G) → AreOwned rows_of group n gs → i < length gs
    → filter (λ x. group x == n + i) (flat_map rows_of gs) ≡ rows_of (get_or gs i d)
group_rows rows_of group n i [] d h low = absurd (omega (arith, low))
group_rows rows_of group n zero (g ∷ gs) d h low =
    filter-append (λ x. group x == n + 0) (rows_of g) (flat_map rows_of gs)
    ∙ ap (λ l. l ++ filter (λ x. group x == n + 0) (flat_map rows_of gs))
    (filter-all (λ x. group x == n + 0) (rows_of g) (Each-mono (λ x. group x ≡ n) (λ x. (group x == n + 0) ≡ true) (rows_of g) (λ x e. eq-eqb (group x) (n + 0) (omega (arith, e))) h.0))
    ∙ ap (λ l. rows_of g ++ l) (group_before rows_of group (n + 1) (n + 0) gs h.1 (omega arith))
    ∙ append-nil (rows_of g)
group_rows rows_of group n (suc i) (g ∷ gs) d h low =
    let same : n + suc i ≡ n + 1 + i = omega arith in
    filter-append (λ x. group x == n + suc i) (rows_of g) (flat_map rows_of gs)
    ∙ ap (λ l. l ++ filter (λ x. group x == n + suc i) (flat_map rows_of gs))
    (filter-none (λ x. group x == n + suc i) (rows_of g) (Each-mono (λ x. group x ≡ n) (λ x. (group x == n + suc i) ≡ false) (rows_of g) (λ x e. ne_eqb (group x) (n + suc i) (λ is. omega (arith, e, is))) h.0))
    ∙ ap (λ m. filter (λ x. group x == m) (flat_map rows_of gs)) same
    ∙ group_rows rows_of group (n + 1) i gs d h.1 (omega (arith, low))

not_less_back : (a b : List ℕ) → is_less_key a b ≡ true → is_less_key b a ≡ false
not_less_back a b h =
    elim (cases_Bool (is_less_key b a)) [
      | inl t ↦ absurd (less-asym a b h t)
      | inr t ↦ t
    ]

-- a row is put behind rows with lesser keys
put_behind_one : {A : Type 0} (key : A → List ℕ) (row x : A) (xs : List A) → is_less_key (key x) (key row) ≡ true → put_row key row (x ∷ xs) ≡ x ∷ put_row key row xs
put_behind_one key row x xs less =
    let other = not-same (key x) (key row) less in
    let first : has_key key (key row) (x ∷ xs) ≡ has_key key (key row) xs = ap (λ b. b || has_key key (key row) xs) other in
    elim (cases_Bool (has_key key (key row) xs)) [
      | inl t ↦ put_there key row (x ∷ xs) (first ∙ t) ∙ cond-false _ _ _ other ∙ ap (λ l. x ∷ l) (sym (put_there key row xs t))
      | inr t ↦ put_new key row (x ∷ xs) (first ∙ t) ∙ cond-false _ _ _ (not_less_back (key x) (key row) less) ∙ ap (λ l. x ∷ l) (sym (put_new key row xs t))
    ]

pub put_behind : {A : Type 0} (key : A → List ℕ) (row : A) (xs ys : List A) → Each (λ x. is_less_key (key x) (key row) ≡ true) xs → put_row key row (xs ++ ys) ≡ xs ++ put_row key row ys
put_behind key row [] ys h = refl
put_behind key row (x ∷ xs) ys h = put_behind_one key row x (xs ++ ys) h.0 ∙ ap (λ l. x ∷ l) (put_behind key row xs ys h.1)

-- a row is put before rows with greater keys
key_itself : (k : List ℕ) → is_same_key k k ≡ true
key_itself k = key_same k k refl

none_has : {A : Type 0} (key : A → List ℕ) (row : A) (ys : List A) → Each (λ y. is_less_key (key row) (key y) ≡ true) ys → has_key key (key row) ys ≡ false
none_has key row [] h = refl
none_has key row (y ∷ ys) h =
    let other : is_same_key (key y) (key row) ≡ false =
    elim (cases_Bool (is_same_key (key y) (key row))) [
      | inl t ↦ absurd (both_ways _ (not-same (key row) (key y) h.0) (subst (λ k. is_same_key (key row) k ≡ true) (sym (same_key (key y) (key row) t)) (key_itself (key row))))
      | inr t ↦ t
    ] in
    ap (λ b. b || has_key key (key row) ys) other ∙ none_has key row ys h.1

put_first : {A : Type 0} (key : A → List ℕ) (row : A) (ys : List A) → Each (λ y. is_less_key (key row) (key y) ≡ true) ys → inserted key row ys ≡ row ∷ ys
put_first key row [] h = refl
put_first key row (y ∷ ys) h = cond-true _ _ _ h.0

has-append : {A : Type 0} (key : A → List ℕ) (row : A) (xs ys : List A) → has_key key (key row) ys ≡ false → has_key key (key row) (xs ++ ys) ≡ has_key key (key row) xs
has-append key row [] ys h = h
has-append key row (x ∷ xs) ys h = ap (λ b. is_same_key (key x) (key row) || b) (has-append key row xs ys h)

replaced-append : {A : Type 0} (key : A → List ℕ) (row : A) (xs ys : List A) → has_key key (key row) xs ≡ true → replaced key row (xs ++ ys) ≡ replaced key row xs ++ ys
replaced-append key row [] ys h = absurd cc
replaced-append key row (x ∷ xs) ys h =
    elim (cases_Bool (is_same_key (key x) (key row))) [
      | inl t ↦ cond-true _ _ _ t ∙ ap (λ l. l ++ ys) (sym (cond-true _ (row ∷ xs) (x ∷ replaced key row xs) t))
      | inr t ↦ cond-false _ _ _ t ∙ ap (λ l. x ∷ l) (replaced-append key row xs ys (ap (λ b. b || has_key key (key row) xs) (sym t) ∙ h)) ∙ ap (λ l. l ++ ys) (sym (cond-false _ (row ∷ xs) (x ∷ replaced key row xs) t))
    ]

inserted-append : {A : Type 0} (key : A → List ℕ) (row : A) (xs ys : List A) → Each (λ y. is_less_key (key row) (key y) ≡ true) ys → inserted key row (xs ++ ys) ≡ inserted key row xs ++ ys
inserted-append key row [] ys h = put_first key row ys h
inserted-append key row (x ∷ xs) ys h =
    elim (cases_Bool (is_less_key (key row) (key x))) [
      | inl t ↦ cond-true _ _ _ t ∙ ap (λ l. l ++ ys) (sym (cond-true _ (row ∷ x ∷ xs) (x ∷ inserted key row xs) t))
      | inr t ↦ cond-false _ _ _ t ∙ ap (λ l. x ∷ l) (inserted-append key row xs ys h) ∙ ap (λ l. l ++ ys) (sym (cond-false _ (row ∷ x ∷ xs) (x ∷ inserted key row xs) t))
    ]

pub put_before : {A : Type 0} (key : A → List ℕ) (row : A) (xs ys : List A) → Each (λ y. is_less_key (key row) (key y) ≡ true) ys → put_row key row (xs ++ ys) ≡ put_row key row xs ++ ys
put_before key row xs ys h =
    let whole = has-append key row xs ys (none_has key row ys h) in
    elim (cases_Bool (has_key key (key row) xs)) [
      | inl t ↦ put_there key row (xs ++ ys) (whole ∙ t) ∙ replaced-append key row xs ys t ∙ ap (λ l. l ++ ys) (sym (put_there key row xs t))
      | inr t ↦ put_new key row (xs ++ ys) (whole ∙ t) ∙ inserted-append key row xs ys h ∙ ap (λ l. l ++ ys) (sym (put_new key row xs t))
    ]

-- a key that begins with the number of the group
pub record LedByGroup {A : Type 0} (key : A → List ℕ) (group : A → ℕ) : Type 0 where
  pub lower : (x y : A) → group x < group y → is_less_key (key x) (key y) ≡ true

-- a row is put among the rows of its group
pub put_grouped : {G A : Type 0} (key : A → List ℕ) (rows_of : G → List A) (group : A → ℕ) (n i : ℕ) (row : A) (gs : List G) (g d : G) → LedByGroup key group → AreOwned rows_of group n gs
    → i < length gs → group row ≡ n + i → rows_of g ≡ put_row key row (rows_of (get_or gs i d)) → put_row key row (flat_map rows_of gs) ≡ flat_map rows_of (set gs i g)
put_grouped key rows_of group n i row [] g d led h low is same = absurd (omega (arith, low))
put_grouped key rows_of group n zero row (old ∷ gs) g d led h low is same =
    put_before key row (rows_of old) (flat_map rows_of gs)
    (Each-mono (λ y. n + 1 ≤ group y) (λ y. is_less_key (key row) (key y) ≡ true) (flat_map rows_of gs) (λ y e. led.lower row y (omega (arith, e, is))) (owned_above rows_of group (n + 1) gs h.1))
    ∙ ap (λ l. l ++ flat_map rows_of gs) (sym same)
put_grouped key rows_of group n (suc i) row (old ∷ gs) g d led h low is same =
    put_behind key row (rows_of old) (flat_map rows_of gs)
    (Each-mono (λ x. group x ≡ n) (λ x. is_less_key (key x) (key row) ≡ true) (rows_of old) (λ x e. led.lower x row (omega (arith, e, is))) h.0)
    ∙ ap (λ l. rows_of old ++ l) (put_grouped key rows_of group (n + 1) i row gs g d led h.1 (omega (arith, low)) (omega (arith, is)) same)

-- where a group keeps its rows, so does the whole
pub kept_grouped : {G A : Type 0} (rows_of : G → List A) (i : ℕ) (gs : List G) (g d : G) → rows_of g ≡ rows_of (get_or gs i d) → flat_map rows_of (set gs i g) ≡ flat_map rows_of gs
kept_grouped rows_of i [] g d same = refl
kept_grouped rows_of zero (old ∷ gs) g d same = ap (λ l. l ++ flat_map rows_of gs) same
kept_grouped rows_of (suc i) (old ∷ gs) g d same = ap (λ l. rows_of old ++ l) (kept_grouped rows_of i gs g d same)

-- a group stays owned, whose rows are its own
pub owned_set : {G A : Type 0} (rows_of : G → List A) (group : A → ℕ) (n i : ℕ) (gs : List G) (g : G) → AreOwned rows_of group n gs → Each (λ x. group x ≡ n + i) (rows_of g) → AreOwned rows_of group n (set gs i g)
owned_set rows_of group n i [] g h own = tt
owned_set rows_of group n zero (old ∷ gs) g h own = (subst (λ m. Each (λ x. group x ≡ m) (rows_of g)) (omega arith) own, h.1)
owned_set rows_of group n (suc i) (old ∷ gs) g h own =
    (h.0, owned_set rows_of group (n + 1) i gs g h.1 (subst (λ m. Each (λ x. group x ≡ m) (rows_of g)) (omega arith) own))

pub owned_at : {G A : Type 0} (rows_of : G → List A) (group : A → ℕ) (n i : ℕ) (gs : List G) (d : G) → AreOwned rows_of group n gs → i < length gs → Each (λ x. group x ≡ n + i) (rows_of (get_or gs i d))
owned_at rows_of group n i [] d h low = absurd (omega (arith, low))
owned_at rows_of group n zero (g ∷ gs) d h low = subst (λ m. Each (λ x. group x ≡ m) (rows_of g)) (omega arith) h.0
owned_at rows_of group n (suc i) (g ∷ gs) d h low =
    subst (λ m. Each (λ x. group x ≡ m) (rows_of (get_or gs i d))) (omega arith) (owned_at rows_of group (n + 1) i gs d h.1 (omega (arith, low)))

-- a new group without rows
pub owned_push : {G A : Type 0} (rows_of : G → List A) (group : A → ℕ) (n : ℕ) (gs : List G) (g : G) → AreOwned rows_of group n gs → rows_of g ≡ [] → AreOwned rows_of group n (gs ++ g ∷ [])
owned_push rows_of group n [] g h none = (subst (Each (λ x. group x ≡ n)) (sym none) tt, tt)
owned_push rows_of group n (old ∷ gs) g h none = (h.0, owned_push rows_of group (n + 1) gs g h.1 none)

pub grouped_push : {G A : Type 0} (rows_of : G → List A) (gs : List G) (g : G) → rows_of g ≡ [] → flat_map rows_of (gs ++ g ∷ []) ≡ flat_map rows_of gs
grouped_push rows_of [] g none = ap (λ l. l ++ []) none
grouped_push rows_of (old ∷ gs) g none = ap (λ l. rows_of old ++ l) (grouped_push rows_of gs g none)

-- what is found and counted by its group is found and counted among the group's rows
pub find-group : {A : Type 0} (in_group test : A → Bool) (xs : List A) → find (λ x. in_group x && test x) xs ≡ find test (filter in_group xs)
find-group in_group test [] = refl
find-group in_group test (x ∷ xs) =
    elim (cases_Bool (in_group x)) [
      | inl t ↦ ap (λ b. if b && test x then Some x else find (λ y. in_group y && test y) xs) t ∙ ap (λ o. if test x then Some x else o) (find-group in_group test xs)
          ∙ ap (find test) (sym (cond-true (in_group x) (x ∷ filter in_group xs) (filter in_group xs) t))
      | inr t ↦ ap (λ b. if b && test x then Some x else find (λ y. in_group y && test y) xs) t ∙ find-group in_group test xs
          ∙ ap (find test) (sym (cond-false (in_group x) (x ∷ filter in_group xs) (filter in_group xs) t))
    ]

pub any-group : {A : Type 0} (in_group test : A → Bool) (xs : List A) → list_any (λ x. in_group x && test x) xs ≡ list_any test (filter in_group xs)
any-group in_group test [] = refl
any-group in_group test (x ∷ xs) =
    elim (cases_Bool (in_group x)) [
      | inl t ↦ ap (λ b. (b && test x) || list_any (λ y. in_group y && test y) xs) t ∙ ap (λ b. test x || b) (any-group in_group test xs)
          ∙ ap (list_any test) (sym (cond-true (in_group x) (x ∷ filter in_group xs) (filter in_group xs) t))
      | inr t ↦ ap (λ b. (b && test x) || list_any (λ y. in_group y && test y) xs) t ∙ any-group in_group test xs
          ∙ ap (list_any test) (sym (cond-false (in_group x) (x ∷ filter in_group xs) (filter in_group xs) t))
    ]

-- rows that stand in the order of their keys group by group do so together
ordered_append : {A : Type 0} (key : A → List ℕ) (xs ys : List A) → Ordered key xs → Ordered key ys → Each (λ x. Each (λ y. is_less_key (key x) (key y) ≡ true) ys) xs → Ordered key (xs ++ ys)
ordered_append key [] ys h k less = k
ordered_append key (x ∷ xs) ys h k less = (Each-append (λ y. is_less_key (key x) (key y) ≡ true) xs ys h.0 less.0, ordered_append key xs ys h.1 k less.1)

abbrev pub AreOrdered : {G A : Type 0} → (A → List ℕ) → (G → List A) → List G → Type 0
AreOrdered key rows_of gs = Each (λ g. Ordered key (rows_of g)) gs

pub ordered_joined : {G A : Type 0} (key : A → List ℕ) (rows_of : G → List A) (group : A → ℕ) (n : ℕ) (gs : List G) → LedByGroup key group → AreOwned rows_of group n gs → AreOrdered key rows_of gs → Ordered key (flat_map rows_of gs)
ordered_joined key rows_of group n [] led own order = tt
ordered_joined key rows_of group n (g ∷ gs) led own order =
    ordered_append key (rows_of g) (flat_map rows_of gs) order.0 (ordered_joined key rows_of group (n + 1) gs led own.1 order.1)
    (Each-mono (λ x. group x ≡ n) (λ x. Each (λ y. is_less_key (key x) (key y) ≡ true) (flat_map rows_of gs)) (rows_of g)
    (λ x e. Each-mono (λ y. n + 1 ≤ group y) (λ y. is_less_key (key x) (key y) ≡ true) (flat_map rows_of gs) (λ y f. led.lower x y (omega (arith, e, f))) (owned_above rows_of group (n + 1) gs own.1)) own.0)
