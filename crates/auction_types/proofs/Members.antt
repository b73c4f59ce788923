-- Members of a list of ads, and lists that have each ad equally often.
use Rattle.std.proofs.Common.{◌≡◌, ℕ, zero, suc, ◌+◌, ◌<◌, ◌≤◌, Bool, true, false, cond, ◌&&◌, ◌⊎◌, inl, inr, List, [], ◌∷◌, ◌++◌, Option, None, Some, map, length, refl, sym, ap, subst, ◌∙◌, arith}
use Rattle.std.specs.List.{count_by, filter, find, Contains}
use Rattle.std.specs.Option.{option_to_list}
use Rattle.std.specs.List.Sorted.{IsPermutation}
use Rattle.std.proofs.lemmas.List.Sorted.{sum_by-IsPermutation}
use Rattle.std.proofs.lemmas.List.Sums.{sum_by-cons, sum_by-append}
use Rattle.std.proofs.lemmas.Bool.{cases_Bool, cond-true, cond-false}
use Rattle.auction_types.specs.AdValue.{AdValue, is_same_ad}
use Rattle.auction_types.proofs.AdLemmas.{is_same_ad-true, is_same_ad-refl}

-- x is in the list
abbrev pub Has : List AdValue → AdValue → Type 0
Has [] x = ⊥
Has (y ∷ ys) x = (y ≡ x) ⊎ Has ys x

pub Has-from_Contains : (xs : List AdValue) (x : AdValue) → Contains xs x → Has xs x
Has-from_Contains [] x (k, within, is) = absurd (omega arith)
Has-from_Contains (y ∷ ys) x (zero, within, is) = inl is
Has-from_Contains (y ∷ ys) x (suc k, within, is) = inr (Has-from_Contains ys x (k, omega arith, is))

pub Contains-from_Has : (xs : List AdValue) (x : AdValue) → Has xs x → Contains xs x
Contains-from_Has [] x h = elim h [ ]
Contains-from_Has (y ∷ ys) x (inl is) = (0, omega arith, is)
Contains-from_Has (y ∷ ys) x (inr h) =
    let at = Contains-from_Has ys x h in
    (suc at.0, omega (arith, at.1), at.2)

pub Has-append_cases : (xs ys : List AdValue) (x : AdValue) → Has (xs ++ ys) x → Has xs x ⊎ Has ys x
Has-append_cases [] ys x h = inr h
Has-append_cases (z ∷ xs) ys x (inl is) = inl (inl is)
Has-append_cases (z ∷ xs) ys x (inr h) =
    elim (Has-append_cases xs ys x h) [ inl k ↦ inl (inr k) | inr k ↦ inr k ]

pub Has-append_left : (xs ys : List AdValue) (x : AdValue) → Has xs x → Has (xs ++ ys) x
Has-append_left [] ys x h = elim h [ ]
Has-append_left (z ∷ xs) ys x (inl is) = inl is
Has-append_left (z ∷ xs) ys x (inr h) = inr (Has-append_left xs ys x h)

pub Has-append_right : (xs ys : List AdValue) (x : AdValue) → Has ys x → Has (xs ++ ys) x
Has-append_right [] ys x h = h
Has-append_right (z ∷ xs) ys x h = inr (Has-append_right xs ys x h)

pub Has-filter : (p : AdValue → Bool) (xs : List AdValue) (x : AdValue) → Has (filter p xs) x → Has xs x × (p x ≡ true)
Has-filter p [] x h = elim h [ ]
Has-filter p (y ∷ ys) x h =
    elim (cases_Bool (p y)) [
      | inl passes ↦
          elim (subst (λ zs. Has zs x) (cond-true (p y) (y ∷ filter p ys) (filter p ys) passes) h) [
            | inl is ↦ (inl is, subst (λ z. p z ≡ true) is passes)
            | inr k ↦ let r = Has-filter p ys x k in (inr r.0, r.1)
          ]
      | inr fails ↦
          let r = Has-filter p ys x (subst (λ zs. Has zs x) (cond-false (p y) (y ∷ filter p ys) (filter p ys) fails) h) in (inr r.0, r.1)
    ]

pub Has-filtered : (p : AdValue → Bool) (xs : List AdValue) (x : AdValue) → Has xs x → p x ≡ true → Has (filter p xs) x
Has-filtered p [] x h t = elim h [ ]
Has-filtered p (y ∷ ys) x (inl is) t =
    subst (λ zs. Has zs x) (sym (cond-true (p y) (y ∷ filter p ys) (filter p ys) (ap p is ∙ t))) (inl is)
Has-filtered p (y ∷ ys) x (inr h) t =
    elim (cases_Bool (p y)) [
      | inl passes ↦ subst (λ zs. Has zs x) (sym (cond-true (p y) (y ∷ filter p ys) (filter p ys) passes)) (inr (Has-filtered p ys x h t))
      | inr fails ↦ subst (λ zs. Has zs x) (sym (cond-false (p y) (y ∷ filter p ys) (filter p ys) fails)) (Has-filtered p ys x h t)
    ]

-- how many pass
pub count_by-cons : (p : AdValue → Bool) (x : AdValue) (xs : List AdValue) → count_by p (x ∷ xs) ≡ cond (p x) 1 0 + count_by p xs
count_by-cons p x xs = sum_by-cons (λ y. cond (p y) 1 0) x xs

pub count_by-append : (p : AdValue → Bool) (xs ys : List AdValue) → count_by p (xs ++ ys) ≡ count_by p xs + count_by p ys
count_by-append p xs ys = sum_by-append (λ y. cond (p y) 1 0) xs ys

pub count_by-all : (p : AdValue → Bool) (xs : List AdValue) → ((x : AdValue) → Has xs x → p x ≡ true) → count_by p xs ≡ length xs
count_by-all p [] h = refl
count_by-all p (x ∷ xs) h =
    let here = h x (inl refl) in
    let rest = count_by-all p xs (λ y k. h y (inr k)) in
    count_by-cons p x xs ∙ rw (cond-true {A = ℕ} (p x) 1 0 here, rest) (omega arith)

pub count_by-none : (p : AdValue → Bool) (xs : List AdValue) → ((x : AdValue) → Has xs x → p x ≡ false) → count_by p xs ≡ 0
count_by-none p [] h = refl
count_by-none p (x ∷ xs) h =
    let here = h x (inl refl) in
    let rest = count_by-none p xs (λ y k. h y (inr k)) in
    count_by-cons p x xs ∙ rw (cond-false {A = ℕ} (p x) 1 0 here, rest) (omega arith)

pub count_by-agree : (p q : AdValue → Bool) (xs : List AdValue) → ((x : AdValue) → Has xs x → p x ≡ q x) → count_by p xs ≡ count_by q xs
count_by-agree p q [] h = refl
count_by-agree p q (x ∷ xs) h =
    let here = h x (inl refl) in
    let rest = count_by-agree p q xs (λ y k. h y (inr k)) in
    rw (count_by-cons p x xs, count_by-cons q x xs, here, rest) refl

-- more pass a weaker test, and one that passes only the weaker one makes the difference
pub count_by-le : (p q : AdValue → Bool) (xs : List AdValue) → ((x : AdValue) → Has xs x → p x ≡ true → q x ≡ true) → count_by p xs ≤ count_by q xs
count_by-le p q [] h = omega arith
count_by-le p q (x ∷ xs) h =
    let rest = count_by-le p q xs (λ y k. h y (inr k)) in
    rw (count_by-cons p x xs, count_by-cons q x xs) (
    elim (cases_Bool (p x)) [
      | inl passes ↦ rw (passes, h x (inl refl) passes) (omega (arith, rest))
      | inr fails ↦ rw fails (omega (arith, rest))
    ])

pub count_by-lt : (p q : AdValue → Bool) (xs : List AdValue) → ((x : AdValue) → Has xs x → p x ≡ true → q x ≡ true) → (n : AdValue) → Has xs n → p n ≡ false → q n ≡ true → count_by p xs < count_by q xs
count_by-lt p q [] h n k fails passes = elim k [ ]
count_by-lt p q (x ∷ xs) h n (inl is) fails passes =
    let rest = count_by-le p q xs (λ y k. h y (inr k)) in
    rw (count_by-cons p x xs, count_by-cons q x xs, ap p is ∙ fails, ap q is ∙ passes) (omega (arith, rest))
count_by-lt p q (x ∷ xs) h n (inr k) fails passes =
    let rest = count_by-lt p q xs (λ y k. h y (inr k)) n k fails passes in
    rw (count_by-cons p x xs, count_by-cons q x xs) (
    elim (cases_Bool (p x)) [
      | inl passes ↦ rw (passes, h x (inl refl) passes) (omega (arith, rest))
      | inr fails ↦ rw fails (omega (arith, rest))
    ])

pub count_by-map : (p : AdValue → Bool) (f : AdValue → AdValue) (xs : List AdValue) → count_by p (map f xs) ≡ count_by (λ x. p (f x)) xs
count_by-map p f [] = refl
count_by-map p f (x ∷ xs) =
    count_by-cons p (f x) (map f xs) ∙ ap (λ n. cond (p (f x)) 1 0 + n) (count_by-map p f xs) ∙ sym (count_by-cons (λ y. p (f y)) x xs)

-- a count is above 0 where one passes, and only there
pub count_by-pos : (p : AdValue → Bool) (xs : List AdValue) (x : AdValue) → Has xs x → p x ≡ true → 0 < count_by p xs
count_by-pos p [] x h t = elim h [ ]
count_by-pos p (y ∷ ys) x (inl is) t = rw (count_by-cons p y ys, ap p is ∙ t) (omega arith)
count_by-pos p (y ∷ ys) x (inr h) t = let rest = count_by-pos p ys x h t in rw (count_by-cons p y ys) (omega (arith, rest))

pub passing_from_count_by : (p : AdValue → Bool) (xs : List AdValue) → 0 < count_by p xs → (x : AdValue) × Has xs x × (p x ≡ true)
passing_from_count_by p [] h = absurd (omega arith)
passing_from_count_by p (y ∷ ys) h =
    elim (cases_Bool (p y)) [
      | inl passes ↦ (y, inl refl, passes)
      | inr fails ↦
          let rest : count_by p (y ∷ ys) ≡ count_by p ys = rw (count_by-cons p y ys, fails) (omega arith) in
          let r = passing_from_count_by p ys (subst (λ n. 0 < n) rest h) in
          (r.0, inr r.1, r.2)
    ]

-- two lists have each ad equally often
pub record SameCounts (xs ys : List AdValue) : Type 0 where
  pub counts : (p : AdValue → Bool) → count_by p xs ≡ count_by p ys

pub SameCounts-refl : (xs : List AdValue) → SameCounts xs xs
SameCounts-refl xs = record { counts = λ p. refl }

pub SameCounts-sym : (xs ys : List AdValue) → SameCounts xs ys → SameCounts ys xs
SameCounts-sym xs ys h = record { counts = λ p. sym (h.counts p) }

pub SameCounts-trans : (xs ys zs : List AdValue) → SameCounts xs ys → SameCounts ys zs → SameCounts xs zs
SameCounts-trans xs ys zs h k = record { counts = λ p. h.counts p ∙ k.counts p }

pub SameCounts-from_IsPermutation : (xs ys : List AdValue) → IsPermutation xs ys → SameCounts xs ys
SameCounts-from_IsPermutation xs ys h = record { counts = λ p. sym (sum_by-IsPermutation (λ x. cond (p x) 1 0) xs ys h) }

pub SameCounts-cons : (x : AdValue) (xs ys : List AdValue) → SameCounts xs ys → SameCounts (x ∷ xs) (x ∷ ys)
SameCounts-cons x xs ys h = record { counts = λ p. rw (count_by-cons p x xs, count_by-cons p x ys, h.counts p) refl }

pub SameCounts-swap : (x y : AdValue) (xs : List AdValue) → SameCounts (x ∷ (y ∷ xs)) (y ∷ (x ∷ xs))
SameCounts-swap x y xs =
    record { counts = λ p. rw (count_by-cons p x (y ∷ xs), count_by-cons p y xs, count_by-cons p y (x ∷ xs), count_by-cons p x xs) (omega arith) }

pub SameCounts-length : (xs ys : List AdValue) → SameCounts xs ys → length xs ≡ length ys
SameCounts-length xs ys h =
    sym (count_by-all (λ _. true) xs (λ x k. refl)) ∙ h.counts (λ _. true) ∙ count_by-all (λ _. true) ys (λ x k. refl)

pub SameCounts-Has : (xs ys : List AdValue) (x : AdValue) → SameCounts xs ys → Has xs x → Has ys x
SameCounts-Has xs ys x h k =
    let positive = count_by-pos (is_same_ad x) xs x k (is_same_ad-refl x) in
    let r = passing_from_count_by (is_same_ad x) ys (subst (λ n. 0 < n) (h.counts (is_same_ad x)) positive) in
    subst (Has ys) (sym (is_same_ad-true x r.0 r.2)) r.1

count_by-filter : (p q : AdValue → Bool) (xs : List AdValue) → count_by q (filter p xs) ≡ count_by (λ x. p x && q x) xs
count_by-filter p q [] = refl
count_by-filter p q (x ∷ xs) =
    let rest = count_by-filter p q xs in
    elim (cases_Bool (p x)) [
      | inl passes ↦ rw (count_by-cons (λ y. p y && q y) x xs, passes) (rw (count_by-cons q x (filter p xs), rest) refl)
      | inr fails ↦ rw (count_by-cons (λ y. p y && q y) x xs, fails) (rw rest (omega arith))
    ]

pub SameCounts-filter : (p : AdValue → Bool) (xs ys : List AdValue) → SameCounts xs ys → SameCounts (filter p xs) (filter p ys)
SameCounts-filter p xs ys h =
    record { counts = λ q. count_by-filter p q xs ∙ h.counts (λ x. p x && q x) ∙ sym (count_by-filter p q ys) }

-- a list with the counts of at most one ad is that list
pub SameCounts-option : (xs : List AdValue) (o : Option AdValue) → SameCounts xs (option_to_list o) → xs ≡ option_to_list o
SameCounts-option [] None h = refl
SameCounts-option [] (Some x) h = absurd (elim (SameCounts-Has (x ∷ []) [] x (SameCounts-sym [] (x ∷ []) h) (inl refl)) [ ])
SameCounts-option (y ∷ ys) None h = absurd (elim (SameCounts-Has (y ∷ ys) [] y h (inl refl)) [ ])
SameCounts-option (y ∷ []) (Some x) h =
    elim (SameCounts-Has (y ∷ []) (x ∷ []) y h (inl refl)) [ inl is ↦ ap (λ z. z ∷ []) (sym is) | inr k ↦ absurd (elim k [ ]) ]
SameCounts-option (y ∷ (z ∷ zs)) (Some x) h = absurd (omega (arith, SameCounts-length (y ∷ (z ∷ zs)) (x ∷ []) h))

-- the first that passes is the first of those that pass
pub head : List AdValue → Option AdValue
head [] = None
head (x ∷ xs) = Some x

pub find-head : (p : AdValue → Bool) (xs : List AdValue) → find p xs ≡ head (filter p xs)
unfolding head
find-head p [] = refl
find-head p (x ∷ xs) =
    elim (cases_Bool (p x)) [
      | inl passes ↦ rw passes refl
      | inr fails ↦ rw fails (find-head p xs)
    ]

pub head-option : (o : Option AdValue) → head (option_to_list o) ≡ o
unfolding head
head-option None = refl
head-option (Some x) = refl
