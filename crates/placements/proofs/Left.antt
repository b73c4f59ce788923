-- The placements of an account and a day that are left, the latest first, and the first of them for a statement.
use Rattle.std.proofs.Common.{◌≡◌, ℕ, zero, suc, ◌+◌, ◌-◌, ◌<◌, ◌≤◌, ◌==◌, ◌&&◌, Bool, true, false, cond, inl, inr, List, [], ◌∷◌, ◌++◌, length, filter, get_or, take, drop, reverse, refl, sym, ap, ◌∙◌, arith, append-nil, length-drop}
use Rattle.std.specs.Prelude.{nat_le}
use Rattle.std.specs.List.{AllWithin}
use Rattle.std.proofs.lemmas.Bool.{cases_Bool, cond-true, cond-false}
use Rattle.std.proofs.lemmas.List.{drop_at, length-reverse, length-take, reverse-append, reverse-reverse, take-append-drop, take_all}
use Rattle.std.proofs.lemmas.List.Elements.{filter-append, filter_agree, filter_more}
use Rattle.desk_types.specs.declared.rows.Placement.{Placement}
use Rattle.desk_types.specs.Day.{day_of}
use Rattle.desk_types.specs.Reports.{is_stated}
use Rattle.placements.specs.Linked.{IsLast, is_of_day}

-- rows that do not pass change nothing
none_more : {A : Type 0} (test : A → Bool) (m g : ℕ) (rows : List A) (d : A) → m + g ≤ length rows → AllWithin (λ x. test x ≡ false) rows m (m + g) → filter test (take (m + g) rows) ≡ filter test (take m rows)
none_more test m zero rows d low none = let e : m + 0 ≡ m = omega arith in ap (λ n. filter test (take n rows)) e
none_more test m (suc g) rows d low none =
    let e : m + suc g ≡ m + g + 1 = omega arith in
    ap (λ n. filter test (take n rows)) e
    ∙ filter_more test rows (m + g) d (omega (arith, low))
    ∙ ap (λ l. filter test (take (m + g) rows) ++ l) (cond-false (test (get_or rows (m + g) d)) (get_or rows (m + g) d ∷ []) [] (none (m + g) d (omega arith) (omega arith)))
    ∙ append-nil (filter test (take (m + g) rows))
    ∙ none_more test m g rows d (omega (arith, low)) (λ k x from below. none k x from (omega (arith, below)))

none_between : {A : Type 0} (test : A → Bool) (m n : ℕ) (rows : List A) → m ≤ n → n ≤ length rows → AllWithin (λ x. test x ≡ false) rows m n → filter test (take n rows) ≡ filter test (take m rows)
none_between test m n [] low within none = let e : n ≡ m = omega (arith, low, within) in ap (λ k. filter test (take k [])) e
none_between test m n (r ∷ rows) low within none =
    let e : n ≡ m + (n - m) = omega (arith, low) in
    ap (λ k. filter test (take k (r ∷ rows))) e
    ∙ none_more test m (n - m) (r ∷ rows) r (omega (arith, low, within)) (λ k x from below. none k x from (omega (arith, below, low)))

-- the rows that pass end with the last one
pub left_first : (test : Placement → Bool) (number : ℕ) (rows : List Placement) → IsLast test number (length rows) rows → reverse (filter test (take number rows)) ≡ reverse (filter test rows)
left_first test number rows h =
    ap reverse (sym (none_between test number (length rows) rows h.within (omega arith) h.none_behind) ∙ ap (filter test) (take_all (length rows) rows (omega arith)))

pub left_more : (test : Placement → Bool) (number earlier : ℕ) (rows : List Placement) (p : Placement) → 0 < number → number ≤ length rows → p ≡ get_or rows (number - 1) p → test p ≡ true → IsLast test earlier (number - 1) rows
    → reverse (filter test (take number rows)) ≡ p ∷ reverse (filter test (take earlier rows))
left_more test number earlier rows p some within at passes h =
    let e : number ≡ number - 1 + 1 = omega (arith, some) in
    let low : number - 1 < length rows = omega (arith, some, within) in
    ap (λ n. reverse (filter test (take n rows))) e
    ∙ ap reverse (filter_more test rows (number - 1) p low)
    ∙ ap (λ (q : Placement). reverse (filter test (take (number - 1) rows) ++ cond (test q) (q ∷ []) [])) (sym at)
    ∙ ap (λ l. reverse (filter test (take (number - 1) rows) ++ l)) (cond-true (test p) (p ∷ []) [] passes)
    ∙ reverse-append (filter test (take (number - 1) rows)) (p ∷ [])
    ∙ ap (λ l. p ∷ reverse l) (none_between test earlier (number - 1) rows h.within (omega (arith, within)) h.none_behind)

pub left_none : (test : Placement → Bool) (number : ℕ) (rows : List Placement) → number ≤ 0 → reverse (filter test (take number rows)) ≡ []
left_none test number rows none = let e : number ≡ 0 = omega (arith, none) in ap (λ n. reverse (filter test (take n rows))) e

-- a filter of the rows the other way round
pub filter-reverse : {A : Type 0} (test : A → Bool) (xs : List A) → filter test (reverse xs) ≡ reverse (filter test xs)
filter-reverse test [] = refl
filter-reverse {A} test (x ∷ xs) =
    ap (filter test) (reverse-append (x ∷ []) xs) ∙ filter-append test (reverse xs) (x ∷ []) ∙ ap (λ l. l ++ filter test (x ∷ [])) (filter-reverse test xs)
    ∙ elim (cases_Bool (test x)) [
      | inl t ↦
          ap (λ l. reverse (filter test xs) ++ l) (cond-true (test x) (x ∷ []) [] t)
          ∙ sym (reverse-append (x ∷ []) (filter test xs)) ∙ ap reverse (sym (cond-true (test x) (x ∷ filter test xs) (filter test xs) t))
      | inr t ↦
          ap (λ l. reverse (filter test xs) ++ l) (cond-false (test x) (x ∷ []) [] t)
          ∙ append-nil (reverse (filter test xs)) ∙ ap reverse (sym (cond-false (test x) (x ∷ filter test xs) (filter test xs) t))
    ]

pub filter_both : {A : Type 0} (p q : A → Bool) (xs : List A) → filter q (filter p xs) ≡ filter (λ x. p x && q x) xs
filter_both p q [] = refl
filter_both p q (x ∷ xs) =
    elim (cases_Bool (p x)) [
      | inl t ↦
          ap (filter q) (cond-true (p x) (x ∷ filter p xs) (filter p xs) t)
          ∙ ap (λ l. cond (q x) (x ∷ l) l) (filter_both p q xs)
          ∙ ap (λ b. cond b (x ∷ filter (λ y. p y && q y) xs) (filter (λ y. p y && q y) xs)) (sym (ap (λ b. b && q x) t))
      | inr t ↦
          ap (filter q) (cond-false (p x) (x ∷ filter p xs) (filter p xs) t)
          ∙ filter_both p q xs
          ∙ ap (λ b. cond b (x ∷ filter (λ y. p y && q y) xs) (filter (λ y. p y && q y) xs)) (sym (ap (λ b. b && q x) t))
    ]

-- the last so many of a list the other way round are the first so many
first_of_reverse : {A : Type 0} (n : ℕ) (xs : List A) → reverse (drop (length (reverse xs) - n) (reverse xs)) ≡ take n xs
first_of_reverse n xs =
    let later = reverse (drop n xs) in
    let parts : reverse xs ≡ later ++ reverse (take n xs) = ap reverse (sym (take-append-drop n xs)) ∙ reverse-append (take n xs) (drop n xs) in
    let count : length later ≡ length (reverse xs) - n = length-reverse (drop n xs) ∙ length-drop n xs ∙ ap (λ k. k - n) (sym (length-reverse xs)) in
    ap (λ l. reverse (drop (length (reverse xs) - n) l)) parts
    ∙ ap reverse (drop_at later (reverse (take n xs)) (length (reverse xs) - n) count)
    ∙ reverse-reverse (take n xs)

is_stated_both : (account day from : ℕ) (p : Placement) → (is_of_day account day p && nat_le from p.number) ≡ is_stated account day from p
is_stated_both account day from p =
    elim (cases_Bool (p.account == account)) [
      | inl t ↦ ap (λ b. (b && day_of p.shown == day) && nat_le from p.number) t ∙ sym (ap (λ b. b && (day_of p.shown == day && nat_le from p.number)) t)
      | inr t ↦ ap (λ b. (b && day_of p.shown == day) && nat_le from p.number) t ∙ sym (ap (λ b. b && (day_of p.shown == day && nat_le from p.number)) t)
    ]

-- the first so many of a statement, of what was found the latest first
pub stated_first : (account day from n : ℕ) (rows latest : List Placement) → latest ≡ filter (λ p. nat_le from p.number) (reverse (filter (is_of_day account day) rows))
    → reverse (drop (length latest - n) latest) ≡ take n (filter (is_stated account day from) rows)
stated_first account day from n rows latest is =
    let own = filter (is_of_day account day) rows in
    let all : latest ≡ reverse (filter (is_stated account day from) rows) =
    is ∙ filter-reverse (λ (p : Placement). nat_le from p.number) own
    ∙ ap reverse (filter_both (is_of_day account day) (λ p. nat_le from p.number) rows ∙ filter_agree (λ p. is_of_day account day p && nat_le from p.number) (is_stated account day from) (is_stated_both account day from) rows) in
    ap (λ l. reverse (drop (length l - n) l)) all ∙ first_of_reverse n (filter (is_stated account day from) rows)

filter_le : {A : Type 0} (test : A → Bool) (xs : List A) → length (filter test xs) ≤ length xs
filter_le test [] = omega arith
filter_le test (x ∷ xs) =
    elim (cases_Bool (test x)) [
      | inl t ↦ omega (arith, ap length (cond-true (test x) (x ∷ filter test xs) (filter test xs) t), filter_le test xs)
      | inr t ↦ omega (arith, ap length (cond-false (test x) (x ∷ filter test xs) (filter test xs) t), filter_le test xs)
    ]

-- there are no more of them than rows
pub left_le : (test : Placement → Bool) (number : ℕ) (rows : List Placement) → length (reverse (filter test (take number rows))) ≤ length rows
left_le test number rows = omega (arith, length-reverse (filter test (take number rows)), filter_le test (take number rows), length-take number rows)

pub and_left_of : (a b : Bool) → (a && b) ≡ true → a ≡ true
and_left_of true b h = refl
and_left_of false b h = h
