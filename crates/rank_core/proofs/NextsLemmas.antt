-- The page with the next below each, from the ranked entrants.
use Rattle.std.proofs.Common.{◌≡◌, ℕ, zero, suc, ◌+◌, List, [], ◌∷◌, ◌++◌, Option, Some, map, length, take, refl, sym, ap, ◌∙◌, arith, append_assoc}
use Rattle.std.specs.List.{slice_get}
use Rattle.auction_types.specs.AdValue.{AdValue}
use Rattle.auction_types.specs.Page.{next_below}
use Rattle.auction_types.proofs.Ranking.{IsRanking, page-ranking, next_below-ranking}
use Rattle.rank_core.specs.declared.page.Ranked.{Ranked}
use Rattle.rank_core.specs.Nexts.{each_with_next}
use Rattle.rank_core.specs.Ranked.{ranked}

abbrev pub with_next : AdValue → Option AdValue → Ranked
with_next x next = record { ad = x; next = next }

-- one more of the page
pub each_with_next_more : (done : List Ranked) (x : AdValue) (below : List AdValue) (n m : ℕ) → n ≡ m + 1 → done ++ take n (each_with_next (x ∷ below)) ≡ (done ++ (with_next x (slice_get below 0) ∷ [])) ++ take m (each_with_next below)
each_with_next_more done x below n m is =
    let at : n ≡ suc m = omega (arith, is) in
    ap (λ k. done ++ take k (each_with_next (x ∷ below))) at ∙ sym (append_assoc done (with_next x (slice_get below 0) ∷ []) (take m (each_with_next below)))

slice_get-behind : (front back : List AdValue) (j k : ℕ) → k ≡ length front + j → slice_get (front ++ back) k ≡ slice_get back j
slice_get-behind [] back j k is = ap (slice_get back) (omega (arith, is))
slice_get-behind (x ∷ front) back j zero is = absurd (omega (arith, is))
slice_get-behind (x ∷ front) back j (suc k) is = slice_get-behind front back j k (omega (arith, is))

first-take : (n : ℕ) (xs : List AdValue) → slice_get (take (suc n) xs) 0 ≡ slice_get xs 0
first-take n [] = refl
first-take n (x ∷ xs) = refl

nexts_behind : (entered whole front back : List AdValue) (n : ℕ) → IsRanking entered whole → whole ≡ front ++ back → take n (each_with_next (take (suc n) back)) ≡ map (λ a. record { ad = a; next = next_below entered a }) (take n back)
nexts_behind entered whole front back zero h is = refl
nexts_behind entered whole front [] (suc n) h is = refl
nexts_behind entered whole front (x ∷ back) (suc n) h is =
    let here : slice_get whole (length front) ≡ Some x = ap (λ w. slice_get w (length front)) is ∙ slice_get-behind front (x ∷ back) 0 (length front) (omega arith) in
    let after : slice_get whole (length front + 1) ≡ slice_get back 0 = ap (λ w. slice_get w (length front + 1)) is ∙ slice_get-behind front (x ∷ back) 1 (length front + 1) (omega arith) in
    let next : slice_get (take (suc n) back) 0 ≡ next_below entered x = first-take n back ∙ sym after ∙ sym (next_below-ranking entered whole (length front) x h here) in
    let rest = nexts_behind entered whole (front ++ (x ∷ [])) back n h (is ∙ sym (append_assoc front (x ∷ []) back)) in
    rw (next, rest) refl

pub ranked-is : (entered whole : List AdValue) (n : ℕ) → IsRanking entered whole → take n (each_with_next (take (n + 1) whole)) ≡ ranked entered n
unfolding ranked
ranked-is entered whole n h =
    let at : n + 1 ≡ suc n = omega arith in
    ap (λ k. take n (each_with_next (take k whole))) at
    ∙ nexts_behind entered whole [] whole n h refl
    ∙ ap (map (λ a. record { ad = a; next = next_below entered a })) (sym (page-ranking entered whole n h))
