-- The ads offered, in order, and their first nine places.
use Rattle.std.proofs.Common.{◌≡◌, ℕ, zero, suc, ◌+◌, ◌<◌, ◌≤◌, true, false, ◌⊎◌, inl, inr, List, [], ◌∷◌, ◌++◌, Option, None, Some, length, take, drop, insert, min, refl, sym, ap, subst, ◌∙◌, arith, length-append}
use Rattle.std.specs.List.{All, filter, list_any, slice_get}
use Rattle.std.specs.Option.{IfSome, option_map, unwrap_or}
use Rattle.std.specs.Bool.{IsTrue}
use Rattle.std.proofs.lemmas.Bool.{cases_Bool, cond-true, cond-false, not_from_false}
use Rattle.std.proofs.lemmas.List.Elements.{All-append, All-contains, All-nil, filter-append}
use Rattle.std.proofs.lemmas.List.{take-append-drop, take_all, take_min, length-take, length-take-le}
use Rattle.auction_types.proofs.Entrants.{list_any-none}
use Rattle.auction_types.specs.AdValue.{AdValue, IsInRange}
use Rattle.auction_types.specs.Order.{better}
use Rattle.auction_types.specs.Page.{entrants, page}
use Rattle.auction_types.proofs.OrderLemmas.{better-asym, better-trans, better-weak_order}
use Rattle.auction_types.proofs.Members.{Has, Contains-from_Has, Has-append_cases}
use Rattle.auction_types.proofs.Ranking.{AreAbove, IsRanked, IsRanking, page-ranking, ranked_around, split_at}
use Rattle.rank_core.specs.Top.{IsTopOf}
use Rattle.rank_core.proofs.FirstsLemmas.{firsts, filter_all, firsts-apart, firsts-ranked, firsts-ranking, is_of, is_other, IsInOrder}
use Rattle.rank_core.proofs.WithAd.{inserted, with_ad, with_better_one, with_new_one, firsts-inserted, take_with, take_with-all, IsNotBeaten, IsRanked-take}

-- members of a list with one more put in
inserted-there : (a : AdValue) (xs : List AdValue) (x : AdValue) → (a ≡ x) ⊎ Has xs x → Has (inserted a xs) x
unfolding inserted
inserted-there a [] x h = h
inserted-there a (y ∷ xs) x h =
    elim (cases_Bool (better y a)) [
      | inl wins ↦ subst (λ zs. Has zs x) (sym (cond-true _ (y ∷ inserted a xs) (a ∷ (y ∷ xs)) wins)) (elim h [
        | inl is ↦ inr (inserted-there a xs x (inl is))
        | inr k ↦ elim k [ inl at ↦ inl at | inr m ↦ inr (inserted-there a xs x (inr m)) ]
      ])
      | inr loses ↦ subst (λ zs. Has zs x) (sym (cond-false _ (y ∷ inserted a xs) (a ∷ (y ∷ xs)) loses)) h
    ]

inserted-back : (a : AdValue) (xs : List AdValue) (x : AdValue) → Has (inserted a xs) x → (a ≡ x) ⊎ Has xs x
unfolding inserted
inserted-back a [] x h = h
inserted-back a (y ∷ xs) x h =
    elim (cases_Bool (better y a)) [
      | inl wins ↦ elim (subst (λ zs. Has zs x) (cond-true _ (y ∷ inserted a xs) (a ∷ (y ∷ xs)) wins) h) [
        | inl at ↦ inr (inl at)
        | inr k ↦ elim (inserted-back a xs x k) [ inl is ↦ inl is | inr m ↦ inr (inr m) ]
      ]
      | inr loses ↦ subst (λ zs. Has zs x) (cond-false _ (y ∷ inserted a xs) (a ∷ (y ∷ xs)) loses) h
    ]

inserted-in_order : (a : AdValue) (xs : List AdValue) → IsInOrder xs → IsInOrder (inserted a xs)
unfolding inserted
inserted-in_order a [] h = (λ y k. absurd (elim k [ ]), tt)
inserted-in_order a (x ∷ xs) h =
    elim (cases_Bool (better x a)) [
      | inl wins ↦ rw wins (
        λ y k. elim (inserted-back a xs y k) [ inl is ↦ subst (λ z. better z x ≡ false) is (better-asym x a wins) | inr m ↦ h.0 y m ],
        inserted-in_order a xs h.1,
      )
      | inr loses ↦ rw loses (
        λ y k. elim k [ inl is ↦ subst (λ z. better z a ≡ false) is loses | inr m ↦ better-weak_order.chain y x a (h.0 y m) loses ],
        h,
      )
    ]

-- the ads, each put behind the better ones
put_in : List AdValue → List AdValue → List AdValue
put_in done [] = done
put_in done (x ∷ xs) = put_in (inserted x done) xs

pub in_order_of : List AdValue → List AdValue
in_order_of xs = put_in [] xs

put_in-more : (done xs : List AdValue) (a : AdValue) → put_in done (xs ++ (a ∷ [])) ≡ inserted a (put_in done xs)
unfolding put_in
put_in-more done [] a = refl
put_in-more done (x ∷ xs) a = put_in-more (inserted x done) xs a

put_in-there : (done xs : List AdValue) (x : AdValue) → Has done x ⊎ Has xs x → Has (put_in done xs) x
unfolding put_in
put_in-there done [] x (inl k) = k
put_in-there done [] x (inr k) = absurd (elim k [ ])
put_in-there done (y ∷ ys) x (inl k) = put_in-there (inserted y done) ys x (inl (inserted-there y done x (inr k)))
put_in-there done (y ∷ ys) x (inr (inl is)) = put_in-there (inserted y done) ys x (inl (inserted-there y done x (inl is)))
put_in-there done (y ∷ ys) x (inr (inr k)) = put_in-there (inserted y done) ys x (inr k)

put_in-back : (done xs : List AdValue) (x : AdValue) → Has (put_in done xs) x → Has done x ⊎ Has xs x
unfolding put_in
put_in-back done [] x k = inl k
put_in-back done (y ∷ ys) x k =
    elim (put_in-back (inserted y done) ys x k) [
      | inl m ↦ elim (inserted-back y done x m) [ inl is ↦ inr (inl is) | inr n ↦ inl n ]
      | inr m ↦ inr (inr m)
    ]

put_in-in_order : (done xs : List AdValue) → IsInOrder done → IsInOrder (put_in done xs)
unfolding put_in
put_in-in_order done [] h = h
put_in-in_order done (x ∷ xs) h = put_in-in_order (inserted x done) xs (inserted-in_order x done h)

in_order : (xs : List AdValue) → IsInOrder (in_order_of xs)
unfolding in_order_of
in_order xs = put_in-in_order [] xs tt

-- the first of each account among them are the entrants, best first
pub ranking_of : (xs : List AdValue) → All IsInRange xs → IsRanking (entrants xs) (firsts (in_order_of xs))
unfolding in_order_of
ranking_of xs h =
    let there = λ (x : AdValue) (k : Has xs x). put_in-there [] xs x (inr k) in
    let back : (x : AdValue) → Has (in_order_of xs) x → Has xs x = λ x k. elim (put_in-back [] xs x k) [ inl m ↦ absurd (elim m [ ]) | inr m ↦ m ] in
    firsts-ranking xs (in_order_of xs) there back (in_order xs) (λ x k. All-contains IsInRange xs x h (Contains-from_Has xs x (back x k)))

-- one more ad that is offered
page_with : (xs : List AdValue) (a : AdValue) (leading : List AdValue) → All IsInRange (xs ++ (a ∷ [])) → IsTopOf xs leading → page (entrants (xs ++ (a ∷ []))) 9 ≡ take 9 (with_ad a leading)
unfolding in_order_of
page_with xs a leading h top =
    page-ranking _ _ 9 (ranking_of (xs ++ (a ∷ [])) h)
    ∙ ap (λ ys. take 9 (firsts ys)) (put_in-more [] xs a)
    ∙ ap (take 9) (firsts-inserted a (in_order_of xs) (in_order xs))
    ∙ sym (take_with a 9 (firsts (in_order_of xs)) (firsts-apart (in_order_of xs)))
    ∙ ap (λ ys. take 9 (with_ad a ys)) (sym (top.first_nine ∙ page-ranking _ _ 9 (ranking_of xs top.in_range)))

pub IsTopOf-with : (xs : List AdValue) (a : AdValue) (leading new : List AdValue) → All IsInRange (xs ++ (a ∷ [])) → IsTopOf xs leading → new ≡ take 9 (with_ad a leading) → IsTopOf (xs ++ (a ∷ [])) new
IsTopOf-with xs a leading new h top is = record { in_range = h; first_nine = is ∙ sym (page_with xs a leading h top) }

-- nine that stand before it
length-take_at_most : (n : ℕ) (ys : List AdValue) → length (take n ys) ≤ n
length-take_at_most zero ys = omega arith
length-take_at_most (suc n) [] = omega arith
length-take_at_most (suc n) (y ∷ ys) = omega (arith, length-take_at_most n ys)

none_of : (ys : List AdValue) (x : AdValue) → length ys ≡ 0 → Has ys x → ⊥
none_of [] x h k = elim k [ ]
none_of (y ∷ ys) x h k = absurd (omega (arith, h))

all_above : (leading : List AdValue) (last a : AdValue) → IsRanked leading → length leading ≤ 9 → slice_get leading 8 ≡ Some last → better last a ≡ true → AreAbove leading a × (length leading ≡ 9)
all_above leading last a h few at wins =
    let s = split_at leading 8 last at in
    let around = ranked_around s.0 last s.1 (subst IsRanked s.2 h) in
    let long : length leading ≡ length s.0 + length (last ∷ s.1) = ap length s.2 ∙ length-append s.0 (last ∷ s.1) in (
      λ x k.
          elim (Has-append_cases s.0 (last ∷ s.1) x (subst (λ ys. Has ys x) s.2 k)) [
            | inl front ↦ better-trans x last a (around.0 x front) wins
            | inr rest ↦ elim rest [ inl is ↦ subst (λ z. better z a ≡ true) is wins | inr behind ↦ absurd (none_of s.1 x (omega (arith, long, few, s.3)) behind) ]
          ],
      omega (arith, long, few, s.3),
    )

leading_is : (xs leading : List AdValue) → IsTopOf xs leading → leading ≡ take 9 (firsts (in_order_of xs))
leading_is xs leading top = top.first_nine ∙ page-ranking _ _ 9 (ranking_of xs top.in_range)

pub leading-short : (xs leading : List AdValue) → IsTopOf xs leading → length leading ≤ 9
leading-short xs leading top = subst (λ ys. length ys ≤ 9) (sym (leading_is xs leading top)) (length-take_at_most 9 (firsts (in_order_of xs)))

leading-ranked : (xs leading : List AdValue) → IsTopOf xs leading → IsRanked leading
leading-ranked xs leading top =
    subst IsRanked (sym (leading_is xs leading top)) (IsRanked-take 9 (firsts (in_order_of xs)) (firsts-ranked (in_order_of xs) (in_order xs)))

pub IsTopOf-closed : (xs : List AdValue) (a last : AdValue) (leading : List AdValue) → All IsInRange (xs ++ (a ∷ [])) → IsTopOf xs leading → slice_get leading 8 ≡ Some last → better last a ≡ true → IsTopOf (xs ++ (a ∷ [])) leading
IsTopOf-closed xs a last leading h top at wins =
    let all = all_above leading last a (leading-ranked xs leading top) (leading-short xs leading top) at wins in
    IsTopOf-with xs a leading leading h top (sym (ap (λ n. take n (with_ad a leading)) (sym all.1) ∙ take_with-all a leading all.0))

pub IsTopOf-none : (leading : List AdValue) → leading ≡ [] → IsTopOf [] leading
unfolding page firsts in_order_of put_in
IsTopOf-none leading is = record { in_range = All-nil IsInRange; first_nine = is ∙ sym (page-ranking _ _ 9 (ranking_of [] (All-nil IsInRange))) }

take_take_less : (n m : ℕ) (ys : List AdValue) → n ≤ m → take n (take m ys) ≡ take n ys
take_take_less zero m ys h = refl
take_take_less (suc n) zero ys h = absurd (omega (arith, h))
take_take_less (suc n) (suc m) [] h = refl
take_take_less (suc n) (suc m) (y ∷ ys) h = ap (λ zs. y ∷ zs) (take_take_less n m ys (omega (arith, h)))

-- the front of the list is that of the ranking
pub shown-ranked : (xs leading : List AdValue) (n k : ℕ) → IsTopOf xs leading → n ≤ 8 → k ≡ min (n + 1) (length leading) → take k leading ≡ take (n + 1) (firsts (in_order_of xs))
shown-ranked xs leading n k top few is =
    let whole = firsts (in_order_of xs) in
    ap (λ m. take m leading) is ∙ take_min (n + 1) leading ∙ ap (take (n + 1)) (leading_is xs leading top) ∙ take_take_less (n + 1) 9 whole (omega (arith, few))

-- an ad put in behind the better ones
not_beaten : (a : AdValue) (ys : List AdValue) (k : ℕ) → IfSome (slice_get ys k) (λ other. better other a ≡ false) → IsNotBeaten a (drop k ys)
not_beaten a [] zero h = tt
not_beaten a [] (suc k) h = tt
not_beaten a (y ∷ ys) zero h = h
not_beaten a (y ∷ ys) (suc k) h = not_beaten a ys k h

put_between : (a : AdValue) (front back : List AdValue) (n : ℕ) → length front ≤ n → take (length front) (take n (front ++ back)) ++ (a ∷ drop (length front) (take n (front ++ back))) ≡ take (suc n) (front ++ (a ∷ back))
put_between a [] back n h = refl
put_between a (x ∷ front) back zero h = absurd (omega (arith, h))
put_between a (x ∷ front) back (suc n) h = ap (λ zs. x ∷ zs) (put_between a front back n (omega (arith, h)))

above_from : (a : AdValue) (ys : List AdValue) → All (λ other. IsTrue (better other a)) ys → AreAbove ys a
above_from a ys h x k = All-contains (λ other. IsTrue (better other a)) ys x h (Contains-from_Has ys x k)

others_kept : (a : AdValue) (front back : List AdValue) → list_any (is_of a) front ≡ false → filter (is_other a) (front ++ back) ≡ front ++ filter (is_other a) back
others_kept a front back none =
    filter-append (is_other a) front back
    ∙ ap (λ zs. zs ++ filter (is_other a) back) (filter_all (is_other a) front (λ x k. not_from_false _ (list_any-none (is_of a) front none x k)))

pub put-is : (a : AdValue) (ys kept new : List AdValue) (k : ℕ) → k ≤ length ys → k ≤ 8 → All (λ other. IsTrue (better other a)) (take k ys) → IfSome (slice_get ys k) (λ other. better other a ≡ false) → list_any (is_of a) (take k ys) ≡ false → kept ≡ filter (is_other a) ys → new ≡ insert (take 8 kept) k a → new ≡ take 9 (with_ad a ys)
put-is a ys kept new k fits few above behind none is made =
    let front = take k ys in
    let back = drop k ys in
    let split : ys ≡ front ++ back = sym (take-append-drop k ys) in
    let long : length front ≡ k = length-take-le k ys fits in
    let kept_is : kept ≡ front ++ filter (is_other a) back = is ∙ ap (filter (is_other a)) split ∙ others_kept a front back none in
    made
    ∙ ap (λ zs. insert (take 8 zs) k a) kept_is
    ∙ ap (λ n. insert (take 8 (front ++ filter (is_other a) back)) n a) (sym long)
    ∙ put_between a front (filter (is_other a) back) 8 (omega (arith, long, few))
    ∙ sym (ap (λ zs. take 9 (with_ad a zs)) split ∙ ap (take 9) (with_new_one a front back (above_from a front above) none (not_beaten a ys k behind)))

pub put-fits : (a : AdValue) (ys kept : List AdValue) (k : ℕ) → k ≤ length ys → k ≤ 8 → list_any (is_of a) (take k ys) ≡ false → kept ≡ filter (is_other a) ys → (k ≤ length (take 8 kept)) × (length (take 8 kept) < 9)
put-fits a ys kept k fits few none is =
    let long : length (take k ys) ≡ k = length-take-le k ys fits in
    let whole : length kept ≡ k + length (filter (is_other a) (drop k ys))
    = ap length (is ∙ ap (filter (is_other a)) (sym (take-append-drop k ys)) ∙ others_kept a (take k ys) (drop k ys) none) ∙ length-append (take k ys) (filter (is_other a) (drop k ys)) ∙ ap (λ n. n + length (filter (is_other a) (drop k ys))) long in
    let cut = length-take 8 kept in
    (omega (arith, whole, cut, few), omega (arith, cut))

pub same-at_all : (xs : List AdValue) (a : AdValue) (ys : List AdValue) (k : ℕ) → All IsInRange (xs ++ (a ∷ [])) → IsTopOf xs ys → 9 ≤ k → k ≤ length ys → All (λ other. IsTrue (better other a)) (take k ys) → IsTopOf (xs ++ (a ∷ [])) ys
same-at_all xs a ys k h top many fits above =
    let short = leading-short xs ys top in
    let nine : length ys ≡ 9 = omega (arith, short, many, fits) in
    let all : take k ys ≡ ys = take_all k ys (omega (arith, nine, many)) in
    IsTopOf-with xs a ys ys h top (sym (ap (λ n. take n (with_ad a ys)) (sym nine) ∙ take_with-all a ys (above_from a ys (subst (λ zs. All (λ other. IsTrue (better other a)) zs) all above))))

pub same-at_own : (xs : List AdValue) (a : AdValue) (ys : List AdValue) (k : ℕ) → All IsInRange (xs ++ (a ∷ [])) → IsTopOf xs ys → All (λ other. IsTrue (better other a)) (take k ys) → list_any (is_of a) (take k ys) ≡ true → IsTopOf (xs ++ (a ∷ [])) ys
same-at_own xs a ys k h top above found =
    let split : ys ≡ take k ys ++ drop k ys = sym (take-append-drop k ys) in
    let same : with_ad a ys ≡ ys = ap (with_ad a) split ∙ with_better_one a (take k ys) (drop k ys) (above_from a (take k ys) above) found ∙ sym split in
    IsTopOf-with xs a ys ys h top (sym (ap (take 9) same ∙ take_all 9 ys (leading-short xs ys top)))

one_in_range : (a : AdValue) → IsInRange a → All IsInRange (a ∷ [])
one_in_range a h zero d low = h
one_in_range a h (suc k) d low = absurd (omega (arith, low))

pub more-in_range : (xs : List AdValue) (a : AdValue) → All IsInRange xs → IsInRange a → All IsInRange (xs ++ (a ∷ []))
more-in_range xs a h is = All-append IsInRange xs (a ∷ []) h (one_in_range a is)

closed_by : (xs : List AdValue) (a : AdValue) (leading : List AdValue) → All IsInRange (xs ++ (a ∷ [])) → IsTopOf xs leading → (ninth : Option AdValue) → slice_get leading 8 ≡ ninth → unwrap_or (option_map (λ last. better last a) ninth) false ≡ true → IsTopOf (xs ++ (a ∷ [])) leading
closed_by xs a leading h top None at closed = absurd cc
closed_by xs a leading h top (Some last) at closed = IsTopOf-closed xs a last leading h top at closed

pub IsTopOf-closed_to : (xs : List AdValue) (a : AdValue) (leading : List AdValue) → All IsInRange (xs ++ (a ∷ [])) → IsTopOf xs leading → unwrap_or (option_map (λ last. better last a) (slice_get leading 8)) false ≡ true → IsTopOf (xs ++ (a ∷ [])) leading
IsTopOf-closed_to xs a leading h top closed = closed_by xs a leading h top (slice_get leading 8) refl closed
