-- Lists of ads in order, best first, and what place, page and next below are by such a list.
use Rattle.std.proofs.Common.{◌≡◌, ℕ, zero, suc, ◌+◌, ◌≤◌, true, false, ◌==◌, inl, inr, List, [], ◌∷◌, ◌++◌, Some, length, take, refl, sym, ap, subst, ◌∙◌, arith, append_assoc, length-append}
use Rattle.std.specs.List.{count_by, filter, slice_get}
use Rattle.std.specs.Option.{option_to_list}
use Rattle.std.proofs.lemmas.Bool.{eq-eqb, ne_eqb}
use Rattle.std.proofs.lemmas.List.Elements.{filter_agree}
use Rattle.std.proofs.lemmas.Option.{same_Some}
use Rattle.auction_types.specs.AdValue.{AdValue}
use Rattle.auction_types.specs.Order.{better}
use Rattle.auction_types.specs.Page.{place, at_place, page, next_below}
use Rattle.auction_types.proofs.OrderLemmas.{better-irreflexive, better-asym}
use Rattle.auction_types.proofs.Members.{Has, Has-append_right, SameCounts, SameCounts-filter, SameCounts-option, count_by-append, count_by-cons, count_by-all, count_by-none, find-head, head, head-option}

-- x is better than each of the list
abbrev pub IsAbove : AdValue → List AdValue → Type 0
IsAbove x ys = (y : AdValue) → Has ys y → better x y ≡ true

-- each of the list is better than x
abbrev pub AreAbove : List AdValue → AdValue → Type 0
AreAbove xs y = (x : AdValue) → Has xs x → better x y ≡ true

-- each is better than all that come after it
abbrev pub IsRanked : List AdValue → Type 0
IsRanked [] = Unit {0}
IsRanked (x ∷ xs) = IsAbove x xs × IsRanked xs

-- a list of ads, ranked
pub record IsRanking (entered ranked : List AdValue) : Type 0 where
  pub same : SameCounts entered ranked
  pub in_order : IsRanked ranked

pub ranked_around : (front : List AdValue) (x : AdValue) (back : List AdValue) → IsRanked (front ++ (x ∷ back)) → AreAbove front x × IsAbove x back
ranked_around [] x back h = (λ y k. absurd (elim k [ ]), h.0)
ranked_around (z ∷ front) x back h =
    let rest = ranked_around front x back h.1 in
    (λ y k. elim k [ inl is ↦ subst (λ w. better w x ≡ true) is (h.0 x (Has-append_right front (x ∷ back) x (inl refl))) | inr k ↦ rest.0 y k ], rest.1)

-- the number of better ones is the number of those in front
count_above : (front : List AdValue) (x : AdValue) (back : List AdValue) → AreAbove front x → IsAbove x back → count_by (λ y. better y x) (front ++ (x ∷ back)) ≡ length front
count_above front x back above below =
    let in_front = count_by-all (λ y. better y x) front above in
    let behind = count_by-none (λ y. better y x) back (λ y k. better-asym x y (below y k)) in
    rw (count_by-append (λ y. better y x) front (x ∷ back), count_by-cons (λ y. better y x) x back, better-irreflexive x, in_front, behind) (omega arith)

pub place-ranked : (front : List AdValue) (x : AdValue) (back : List AdValue) → IsRanked (front ++ (x ∷ back)) → place (front ++ (x ∷ back)) x ≡ length front + 1
unfolding place
place-ranked front x back h =
    let around = ranked_around front x back h in
    ap (λ n. n + 1) (count_above front x back around.0 around.1)

pub place-same : (xs ys : List AdValue) (x : AdValue) → SameCounts xs ys → place xs x ≡ place ys x
unfolding place
place-same xs ys x h = ap (λ n. n + 1) (h.counts (λ y. better y x))

split_more : (ranked front : List AdValue) (x : AdValue) (back : List AdValue) → ranked ≡ front ++ (x ∷ back) → ranked ≡ (front ++ (x ∷ [])) ++ back
split_more ranked front x back is = is ∙ sym (append_assoc front (x ∷ []) back)

place_here : (ranked front : List AdValue) (x : AdValue) (back : List AdValue) → IsRanked ranked → ranked ≡ front ++ (x ∷ back) → place ranked x ≡ length front + 1
place_here ranked front x back h is =
    ap (λ r. place r x) is ∙ place-ranked front x back (subst IsRanked is h)

-- none behind has a place in front
filter_behind : (ranked front back : List AdValue) (m : ℕ) → IsRanked ranked → ranked ≡ front ++ back → m ≤ length front → filter (λ a. place ranked a == m) back ≡ []
filter_behind ranked front [] m h is low = refl
filter_behind ranked front (x ∷ back) m h is low =
    let other : (place ranked x == m) ≡ false = ne_eqb (place ranked x) m (λ e. omega (arith, place_here ranked front x back h is)) in
    rw other (filter_behind ranked (front ++ (x ∷ [])) back m h (split_more ranked front x back is) (omega (arith, length-append front (x ∷ []))))

-- of those behind, one alone has a place, if it is reached
filter_one : (ranked front back : List AdValue) (j m : ℕ) → IsRanked ranked → ranked ≡ front ++ back → m ≡ length front + j + 1 → filter (λ a. place ranked a == m) back ≡ option_to_list (slice_get back j)
filter_one ranked front [] j m h is at = refl
filter_one ranked front (x ∷ back) zero m h is at =
    let here : (place ranked x == m) ≡ true = eq-eqb (place ranked x) m (omega (arith, place_here ranked front x back h is)) in
    rw here (ap (λ xs. x ∷ xs) (filter_behind ranked (front ++ (x ∷ [])) back m h (split_more ranked front x back is) (omega (arith, length-append front (x ∷ [])))))
filter_one ranked front (x ∷ back) (suc j) m h is at =
    let other : (place ranked x == m) ≡ false = ne_eqb (place ranked x) m (λ e. omega (arith, place_here ranked front x back h is)) in
    rw other (filter_one ranked (front ++ (x ∷ [])) back j m h (split_more ranked front x back is) (omega (arith, length-append front (x ∷ []))))

pub at_place-ranking : (entered ranked : List AdValue) (k m : ℕ) → IsRanking entered ranked → m ≡ k + 1 → at_place entered m ≡ option_to_list (slice_get ranked k)
unfolding at_place
at_place-ranking entered ranked k m h is =
    let by_ranked : filter (λ a. place entered a == m) entered ≡ filter (λ a. place ranked a == m) entered
    = filter_agree (λ a. place entered a == m) (λ a. place ranked a == m) (λ a. ap (λ n. n == m) (place-same entered ranked a h.same)) entered in
    let one = filter_one ranked [] ranked k m h.in_order refl (omega arith) in
    let counts : SameCounts (filter (λ a. place ranked a == m) entered) (option_to_list (slice_get ranked k))
    = subst (λ xs. SameCounts (filter (λ a. place ranked a == m) entered) xs) one (SameCounts-filter (λ a. place ranked a == m) entered ranked h.same) in
    by_ranked ∙ SameCounts-option _ (slice_get ranked k) counts

take_one_more : (xs : List AdValue) (n : ℕ) → take n xs ++ option_to_list (slice_get xs n) ≡ take (suc n) xs
take_one_more [] zero = refl
take_one_more [] (suc n) = refl
take_one_more (x ∷ xs) zero = refl
take_one_more (x ∷ xs) (suc n) = ap (λ ys. x ∷ ys) (take_one_more xs n)

-- the page is the front of the ranking
pub page-ranking : (entered ranked : List AdValue) (n : ℕ) → IsRanking entered ranked → page entered n ≡ take n ranked
unfolding page
page-ranking entered ranked zero h = refl
page-ranking entered ranked (suc n) h =
    rw (page-ranking entered ranked n h, at_place-ranking entered ranked n (suc n) h (omega arith)) (take_one_more ranked n)

pub split_at : (xs : List AdValue) (k : ℕ) (x : AdValue) → slice_get xs k ≡ Some x → (front : List AdValue) × (back : List AdValue) × (xs ≡ front ++ (x ∷ back)) × (length front ≡ k) × (slice_get xs (suc k) ≡ slice_get back 0)
split_at [] k x h = absurd cc
split_at (y ∷ ys) zero x h =
    ([], ys, ap (λ z. z ∷ ys) (same_Some y x h), refl, refl)
split_at (y ∷ ys) (suc k) x h =
    let r = split_at ys k x h in
    (y ∷ r.0, r.1, ap (λ zs. y ∷ zs) r.2, omega (arith, r.3), r.4)

pub place-at : (entered ranked : List AdValue) (k : ℕ) (x : AdValue) → IsRanking entered ranked → slice_get ranked k ≡ Some x → place entered x ≡ k + 1
place-at entered ranked k x h at =
    let s = split_at ranked k x at in
    place-same entered ranked x h.same ∙ place_here ranked s.0 x s.1 h.in_order s.2 ∙ ap (λ n. n + 1) s.3

-- the next below is the next of the ranking
pub next_below-ranking : (entered ranked : List AdValue) (k : ℕ) (x : AdValue) → IsRanking entered ranked → slice_get ranked k ≡ Some x → next_below entered x ≡ slice_get ranked (k + 1)
unfolding next_below at_place
next_below-ranking entered ranked k x h at =
    find-head (λ b. place entered b == place entered x + 1) entered
    ∙ ap head (at_place-ranking entered ranked (k + 1) (place entered x + 1) h (ap (λ n. n + 1) (place-at entered ranked k x h at)))
    ∙ head-option (slice_get ranked (k + 1))
