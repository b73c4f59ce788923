-- What the price of an entrant is.
use Rattle.std.proofs.Common.{◌≡◌, ◌≢◌, ℕ, zero, suc, ◌+◌, ◌-◌, ◌*◌, ◌≤◌, Bool, true, false, nat_lt, ◌==◌, ◌&&◌, ◌||◌, cond, inl, inr, List, [], ◌∷◌, ◌++◌, refl, sym, ap, subst, ◌∙◌, arith}
use Rattle.std.specs.List.{count_by, slice_get}
use Rattle.std.proofs.Math.Nat.{mul-le-mul_right}
use Rattle.std.proofs.lemmas.Bool.{cases_Bool, both_ways, and_parts, and_from, leb-true, le-leb, eqb-true, eq-eqb, ne_eqb, false_from_ne_true, cases_eq, cases_lt}
use Rattle.std.proofs.lemmas.Bool.Decides.{nat_tests}
use Rattle.auction_types.specs.AdValue.{AdValue, score, with_bid, is_same_ad}
use Rattle.auction_types.specs.Order.{better, wins_tie, has_smaller_triple, stays_ahead}
use Rattle.auction_types.specs.Page.{place, next_below}
use Rattle.auction_types.specs.Price.{with_bid_of, keeps_place, is_enough, first_passing, price}
use Rattle.auction_types.specs.Laws.{IsLeastPrice}
use Rattle.auction_types.proofs.AdLemmas.{is_same_ad-true, is_same_ad-refl}
use Rattle.auction_types.proofs.OrderLemmas.{better-irreflexive, better-trans, better-asym}
use Rattle.auction_types.proofs.Members.{Has, Has-append_cases, Has-append_right, SameCounts, SameCounts-Has, SameCounts-sym, count_by-map, count_by-agree, count_by-lt}
use Rattle.auction_types.proofs.Ranking.{IsRanked, ranked_around, split_at, next_below-ranking}
use Rattle.auction_types.proofs.Accounts.{AreApart, one_of_account, better_one, ranking_of, IsRanking-of, slice_get-Has, right_one}

-- the first number that passes
pub first_passing-ge : (test : ℕ → Bool) (from tries : ℕ) → from ≤ first_passing test from tries
unfolding first_passing
first_passing-ge test from zero = omega arith
first_passing-ge test from (suc tries) =
    elim (cases_Bool (test from)) [
      | inl passes ↦ rw passes (omega arith)
      | inr fails ↦ rw fails (omega (arith, first_passing-ge test (from + 1) tries))
    ]

pub first_passing-le : (test : ℕ → Bool) (from tries : ℕ) → first_passing test from tries ≤ from + tries
unfolding first_passing
first_passing-le test from zero = omega arith
first_passing-le test from (suc tries) =
    elim (cases_Bool (test from)) [
      | inl passes ↦ rw passes (omega arith)
      | inr fails ↦ rw fails (omega (arith, first_passing-le test (from + 1) tries))
    ]

pub first_passing-passes : (test : ℕ → Bool) (from tries last : ℕ) → last ≡ from + tries → test last ≡ true → test (first_passing test from tries) ≡ true
unfolding first_passing
first_passing-passes test from zero last is h = subst (λ n. test n ≡ true) (omega (arith, is)) h
first_passing-passes test from (suc tries) last is h =
    elim (cases_Bool (test from)) [
      | inl passes ↦ rw passes passes
      | inr fails ↦ rw fails (first_passing-passes test (from + 1) tries last (omega (arith, is)) h)
    ]

pub first_passing-least : (test : ℕ → Bool) (from tries n : ℕ) → from ≤ n → test n ≡ true → n ≤ from + tries → first_passing test from tries ≤ n
unfolding first_passing
first_passing-least test from zero n low h high = omega (arith, low)
first_passing-least test from (suc tries) n low h high =
    elim (cases_Bool (test from)) [
      | inl passes ↦ rw passes (omega (arith, low))
      | inr fails ↦
          rw fails (
          elim (cases_eq from n) [
            | inl same ↦ absurd (both_ways (test n) (subst (λ m. test m ≡ false) same fails) h)
            | inr other ↦ first_passing-least test (from + 1) tries n (omega (arith, low, other)) h (omega (arith, high))
          ])
    ]

-- with its own bid an ad is as it was, and so are the entrants
with_own_bid : (entered : List AdValue) (a : AdValue) → with_bid_of entered a a.bid ≡ entered
unfolding with_bid_of
with_own_bid [] a = refl
with_own_bid (x ∷ xs) a =
    elim (cases_Bool (is_same_ad x a)) [
      | inl same ↦ rw same (ap (λ y. y ∷ with_bid_of xs a a.bid) (sym (is_same_ad-true x a same)) ∙ ap (λ ys. x ∷ ys) (with_own_bid xs a))
      | inr other ↦ rw other (ap (λ ys. x ∷ ys) (with_own_bid xs a))
    ]

pub keeps_place-own : (entered : List AdValue) (a : AdValue) → keeps_place entered a a.bid ≡ true
unfolding keeps_place
keeps_place-own entered a = eq-eqb _ _ (ap (λ xs. place xs a) (with_own_bid entered a))

pub is_enough-own : (reserve floor : ℕ) (entered : List AdValue) (a : AdValue) → reserve ≤ a.bid → floor ≤ score a → is_enough reserve floor entered a a.bid ≡ true
unfolding is_enough
is_enough-own reserve floor entered a low high =
    and_from _ _ (le-leb reserve a.bid low) (and_from _ _ (le-leb floor (score a) high) (keeps_place-own entered a))

-- the price is enough, and no smaller number is
pub price-is_enough : (reserve floor : ℕ) (entered : List AdValue) (a : AdValue) → reserve ≤ a.bid → floor ≤ score a → is_enough reserve floor entered a (price reserve floor entered a) ≡ true
unfolding price
price-is_enough reserve floor entered a low high =
    first_passing-passes (is_enough reserve floor entered a) reserve (a.bid - reserve) a.bid (omega (arith, low)) (is_enough-own reserve floor entered a low high)

pub price-le-bid : (reserve floor : ℕ) (entered : List AdValue) (a : AdValue) → reserve ≤ a.bid → price reserve floor entered a ≤ a.bid
unfolding price
price-le-bid reserve floor entered a low = omega (arith, low, first_passing-le (is_enough reserve floor entered a) reserve (a.bid - reserve))

pub price-least : (reserve floor : ℕ) (entered : List AdValue) (a : AdValue) (n : ℕ) → n ≤ a.bid → is_enough reserve floor entered a n ≡ true → price reserve floor entered a ≤ n
unfolding price is_enough
price-least reserve floor entered a n high h =
    let low = leb-true reserve n (and_parts _ _ h).0 in
    first_passing-least (is_enough reserve floor entered a) reserve (a.bid - reserve) n low h (omega (arith, low, high))

lower_still : (m n l : ℕ) (tie : Bool) → l ≤ n → (nat_lt n m || (m == n && tie)) ≡ true → (nat_lt l m || (m == l && tie)) ≡ true
lower_still m n l tie low h = grind (arith, nat_tests)

-- an ad with a lower bid loses to what was better than it
better-lower : (x a : AdValue) (bid : ℕ) → bid ≤ a.bid → better x a ≡ true → better x (with_bid a bid) ≡ true
unfolding better wins_tie has_smaller_triple
better-lower x a bid low h =
    let less : bid * a.quality ≤ a.bid * a.quality = mul-le-mul_right a.quality low in
    lower_still (score x) (a.bid * a.quality) (bid * a.quality) (wins_tie x a) less h

-- an entrant with those better than it and those below it, best first
pub record IsAround (entered : List AdValue) (a : AdValue) (front back : List AdValue) : Type 0 where
  pub same : SameCounts entered (front ++ (a ∷ back))
  pub in_order : IsRanked (front ++ (a ∷ back))
  pub next : next_below entered a ≡ slice_get back 0

pub around : (entered : List AdValue) (a : AdValue) → AreApart entered → Has entered a → (front : List AdValue) × (back : List AdValue) × IsAround entered a front back
around entered a apart h =
    let ranking = IsRanking-of entered apart in
    let at = slice_get-Has (ranking_of entered) a (SameCounts-Has entered (ranking_of entered) a ranking.same h) in
    let s = split_at (ranking_of entered) at.0 a at.2 in (
      s.0,
      s.1,
      record {
        same = subst (SameCounts entered) s.2 ranking.same;
        in_order = subst IsRanked s.2 ranking.in_order;
        next = next_below-ranking entered (ranking_of entered) at.0 a ranking at.2 ∙ ap (slice_get (ranking_of entered)) (omega arith) ∙ s.4;
      },
    )

ranked_behind : (front : List AdValue) (x : AdValue) (back : List AdValue) → IsRanked (front ++ (x ∷ back)) → IsRanked back
ranked_behind [] x back h = h.1
ranked_behind (z ∷ front) x back h = ranked_behind front x back h.1

behind_loses : (a x : AdValue) (back : List AdValue) → IsRanked back → Has back x → stays_ahead a (slice_get back 0) ≡ true → better x a ≡ false
behind_loses a x [] h k ahead = absurd (elim k [ ])
behind_loses a x (y ∷ ys) h (inl is) ahead = better-asym a x (subst (λ z. better a z ≡ true) is ahead)
behind_loses a x (y ∷ ys) h (inr k) ahead = better-asym a x (better-trans a y x ahead (h.0 x k))

-- who is not better than a loses to it with any bid with which it stays ahead
below_loses : (entered : List AdValue) (a x : AdValue) (front back : List AdValue) (bid : ℕ) → IsAround entered a front back → Has entered x → better x a ≡ false → is_same_ad x a ≡ false → stays_ahead (with_bid a bid) (next_below entered a) ≡ true → better x (with_bid a bid) ≡ false
below_loses entered a x front back bid h k fails other ahead =
    let parts = ranked_around front a back h.in_order in
    elim (Has-append_cases front (a ∷ back) x (SameCounts-Has entered (front ++ (a ∷ back)) x h.same k)) [
      | inl in_front ↦ absurd (both_ways (better x a) fails (parts.0 x in_front))
      | inr (inl is) ↦ absurd (both_ways (is_same_ad x a) other (ap (λ y. is_same_ad y a) (sym is) ∙ is_same_ad-refl a))
      | inr (inr behind) ↦ behind_loses (with_bid a bid) x back (ranked_behind front a back h.in_order) behind (subst (λ o. stays_ahead (with_bid a bid) o ≡ true) h.next ahead)
    ]

with_bid_count : (entered : List AdValue) (a : AdValue) (bid : ℕ) → place (with_bid_of entered a bid) (with_bid a bid) ≡ count_by (λ x. better (cond (is_same_ad x a) (with_bid a bid) x) (with_bid a bid)) entered + 1
unfolding place with_bid_of
with_bid_count entered a bid = ap (λ n. n + 1) (count_by-map (λ y. better y (with_bid a bid)) (λ x. cond (is_same_ad x a) (with_bid a bid) x) entered)

-- a bid keeps the place where with it the ad stays ahead of the next below
keeps_where_ahead : (entered : List AdValue) (a : AdValue) (front back : List AdValue) (bid : ℕ) → IsAround entered a front back → bid ≤ a.bid → stays_ahead (with_bid a bid) (next_below entered a) ≡ true → keeps_place entered a bid ≡ true
unfolding keeps_place place
keeps_where_ahead entered a front back bid h low ahead =
    eq-eqb _ _ (with_bid_count entered a bid ∙ ap (λ n. n + 1) (count_by-agree _ (λ x. better x a) entered (λ x k.
    elim (cases_Bool (is_same_ad x a)) [
      | inl same ↦ rw same (better-irreflexive (with_bid a bid) ∙ sym (ap (λ y. better y a) (is_same_ad-true x a same) ∙ better-irreflexive a))
      | inr other ↦ rw other (
          elim (cases_Bool (better x a)) [
            | inl wins ↦ better-lower x a bid low wins ∙ sym wins
            | inr fails ↦ below_loses entered a x front back bid h k fails other ahead ∙ sym fails
          ])
    ])))

still_above : (a x : AdValue) (bid : ℕ) → bid ≤ a.bid → better x a ≡ true → better (cond (is_same_ad x a) (with_bid a bid) x) (with_bid a bid) ≡ true
still_above a x bid low wins =
    elim (cases_Bool (is_same_ad x a)) [
      | inl same ↦ absurd (both_ways (better x a) (ap (λ y. better y a) (is_same_ad-true x a same) ∙ better-irreflexive a) wins)
      | inr other ↦ rw other (better-lower x a bid low wins)
    ]

-- and nowhere else
loses_where_behind : (entered : List AdValue) (a : AdValue) (front back : List AdValue) (bid : ℕ) → AreApart entered → Has entered a → IsAround entered a front back → bid ≤ a.bid → stays_ahead (with_bid a bid) (next_below entered a) ≡ false → keeps_place entered a bid ≡ false
unfolding keeps_place place
loses_where_behind entered a front [] bid apart ha h low behind = absurd (both_ways true (subst (λ o. stays_ahead (with_bid a bid) o ≡ false) h.next behind) refl)
loses_where_behind entered a front (below ∷ back) bid apart ha h low behind =
    let beaten : better (with_bid a bid) below ≡ false = subst (λ o. stays_ahead (with_bid a bid) o ≡ false) h.next behind in
    let hb = SameCounts-Has (front ++ (a ∷ (below ∷ back))) entered below (SameCounts-sym _ _ h.same) (Has-append_right front (a ∷ (below ∷ back)) below (inr (inl refl))) in
    let wins : better a below ≡ true = (ranked_around front a (below ∷ back) h.in_order).1 below (inl refl) in
    let apart_from : below.account ≢ a.account = λ e. both_ways (better a below) (ap (better a) (one_of_account entered below a apart hb ha e) ∙ better-irreflexive a) wins in
    let passes : better below (with_bid a bid) ≡ true = right_one (with_bid a bid) below (better_one (with_bid a bid) below (λ e. apart_from (sym e))) beaten in
    let other : is_same_ad below a ≡ false = false_from_ne_true (is_same_ad below a) (λ e. apart_from (ap (λ x. x.account) (is_same_ad-true below a e))) in
    let more = count_by-lt (λ x. better x a) (λ x. better (cond (is_same_ad x a) (with_bid a bid) x) (with_bid a bid)) entered
    (λ x k. still_above a x bid low) below hb (better-asym a below wins) (rw other passes) in
    ne_eqb _ _ (λ e. omega (arith, more, e, with_bid_count entered a bid))

-- at a bid of at most its own, an entrant keeps its place exactly where it stays ahead of the next below
pub keeps_place-is : (entered : List AdValue) (a : AdValue) (bid : ℕ) → AreApart entered → Has entered a → bid ≤ a.bid → keeps_place entered a bid ≡ stays_ahead (with_bid a bid) (next_below entered a)
keeps_place-is entered a bid apart h low =
    let r = around entered a apart h in
    elim (cases_Bool (stays_ahead (with_bid a bid) (next_below entered a))) [
      | inl ahead ↦ keeps_where_ahead entered a r.0 r.1 bid r.2 low ahead ∙ sym ahead
      | inr behind ↦ loses_where_behind entered a r.0 r.1 bid apart h r.2 low behind ∙ sym behind
    ]

pub price-least_price : (reserve floor : ℕ) (entered : List AdValue) (a : AdValue) → reserve ≤ a.bid → floor ≤ score a → IsLeastPrice reserve floor entered a (price reserve floor entered a)
unfolding is_enough keeps_place
price-least_price reserve floor entered a low high =
    let enough = price-is_enough reserve floor entered a low high in
    let first = and_parts _ _ enough in
    let second = and_parts _ _ first.1 in
    let own = price-le-bid reserve floor entered a low in
    record {
      at_most_bid = own;
      at_least_reserve = leb-true reserve _ first.0;
      meets_floor = leb-true floor _ second.0;
      keeps_place = eqb-true _ _ second.1;
      least = λ bid reserve_met floor_met kept.
          elim (cases_lt bid a.bid) [
            | inl within ↦ price-least reserve floor entered a bid (omega (arith, within)) (and_from _ _ (le-leb reserve bid reserve_met) (and_from _ _ (le-leb floor (bid * a.quality) floor_met) (eq-eqb _ _ kept)))
            | inr above ↦ omega (arith, own, above)
          ];
    }
