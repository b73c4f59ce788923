-- Better is a strict total order.
use Rattle.std.proofs.Common.{◌≡◌, ◌≢◌, ℕ, ◌*◌, ◌≤◌, Bool, true, false, ◌⊎◌, inl, inr, nat_lt, ◌==◌, ◌&&◌, ◌||◌, sym, ap, ◌∙◌, ◌/◌, arith}
use Rattle.std.proofs.lemmas.Bool.Decides.{nat_tests}
use Rattle.std.proofs.lemmas.Bool.{false_from_ne_true, true_from_ne_false, both_ways, cases_Bool}
use Rattle.std.specs.Cmp.{IsStrictWeakOrder}
use Rattle.std.proofs.Math.Nat.{mul-div_cancel}
use Rattle.auction_types.proofs.AdLemmas.{same_ad}
use Rattle.auction_types.specs.AdValue.{AdValue, IsInRange, score, is_same_line}
use Rattle.auction_types.specs.Order.{has_smaller_triple, wins_tie, better}

-- first by the smaller number
smaller_trans : (x y z : ℕ) (p q r : Bool) → (p ≡ true → q ≡ true → r ≡ true) → (nat_lt x y || (x == y && p)) ≡ true → (nat_lt y z || (y == z && q)) ≡ true → (nat_lt x z || (x == z && r)) ≡ true
smaller_trans x y z p q r then h k = grind (arith, nat_tests)

smaller_irreflexive : (x : ℕ) (p : Bool) → p ≡ false → (nat_lt x x || (x == x && p)) ≡ false
smaller_irreflexive x p h = grind (arith, nat_tests)

smaller_total : (x y : ℕ) (p q : Bool) → (x ≡ y → (p ≡ true) ⊎ (q ≡ true)) → ((nat_lt x y || (x == y && p)) ≡ true) ⊎ ((nat_lt y x || (y == x && q)) ≡ true)
smaller_total x y p q then = grind (arith, nat_tests)

-- first by the greater number
greater_trans : (x y z : ℕ) (p q r : Bool) → (p ≡ true → q ≡ true → r ≡ true) → (nat_lt y x || (x == y && p)) ≡ true → (nat_lt z y || (y == z && q)) ≡ true → (nat_lt z x || (x == z && r)) ≡ true
greater_trans x y z p q r then h k = grind (arith, nat_tests)

greater_irreflexive : (x : ℕ) (p : Bool) → p ≡ false → (nat_lt x x || (x == x && p)) ≡ false
greater_irreflexive x p h = grind (arith, nat_tests)

greater_total : (x y : ℕ) (p q : Bool) → (x ≡ y → (p ≡ true) ⊎ (q ≡ true)) → ((nat_lt y x || (x == y && p)) ≡ true) ⊎ ((nat_lt x y || (y == x && q)) ≡ true)
greater_total x y p q then = grind (arith, nat_tests)

smaller_chain : (x y z : ℕ) (p q r : Bool) → (p ≡ false → q ≡ false → r ≡ false) → (nat_lt x y || (x == y && p)) ≡ false → (nat_lt y z || (y == z && q)) ≡ false → (nat_lt x z || (x == z && r)) ≡ false
smaller_chain x y z p q r then h k = grind (arith, nat_tests)

greater_chain : (x y z : ℕ) (p q r : Bool) → (p ≡ false → q ≡ false → r ≡ false) → (nat_lt y x || (x == y && p)) ≡ false → (nat_lt z y || (y == z && q)) ≡ false → (nat_lt z x || (x == z && r)) ≡ false
greater_chain x y z p q r then h k = grind (arith, nat_tests)

pub better-irreflexive : (a : AdValue) → better a a ≡ false
unfolding better wins_tie has_smaller_triple
better-irreflexive a =
    greater_irreflexive (score a) _ (greater_irreflexive a.quality _ (smaller_irreflexive a.account _ (smaller_irreflexive a.campaign _ (grind (arith, nat_tests)))))

pub better-trans : (a b c : AdValue) → better a b ≡ true → better b c ≡ true → better a c ≡ true
unfolding better wins_tie has_smaller_triple
better-trans a b c =
    greater_trans (score a) (score b) (score c) _ _ _ (
    greater_trans a.quality b.quality c.quality _ _ _ (
    smaller_trans a.account b.account c.account _ _ _ (
    smaller_trans a.campaign b.campaign c.campaign _ _ _ (λ h k. grind (arith, nat_tests)))))

-- two ads that are not of one line differ in a number of their triples
smaller_triple-total : (a b : AdValue) → is_same_line a b ≡ false → (has_smaller_triple a b ≡ true) ⊎ (has_smaller_triple b a ≡ true)
unfolding has_smaller_triple
smaller_triple-total a b h =
    smaller_total a.account b.account _ _ (λ same_account.
    smaller_total a.campaign b.campaign _ _ (λ same_campaign. grind (arith, nat_tests)))

pub better-total : (a b : AdValue) → is_same_line a b ≡ false → (better a b ≡ true) ⊎ (better b a ≡ true)
unfolding better wins_tie
better-total a b h =
    greater_total (score a) (score b) _ _ (λ same_score.
    greater_total a.quality b.quality _ _ (λ same_quality. smaller_triple-total a b h))

pub better-asym : (a b : AdValue) → better a b ≡ true → better b a ≡ false
better-asym a b h = false_from_ne_true (better b a) (λ k. both_ways (better a a) (better-irreflexive a) (better-trans a b a h k))

-- a bid is told by its score
same_bid : (m n q : ℕ) → 1 ≤ q → m * q ≡ n * q → m ≡ n
same_bid m n q h e = sym (mul-div_cancel m h) ∙ ap (λ x. x / q) e ∙ mul-div_cancel n h

neither_smaller : (x y : ℕ) (p q : Bool) → (nat_lt x y || (x == y && p)) ≡ false → (nat_lt y x || (y == x && q)) ≡ false → (x ≡ y) × (p ≡ false) × (q ≡ false)
neither_smaller x y p q h k = grind (arith, nat_tests)

neither_greater : (x y : ℕ) (p q : Bool) → (nat_lt y x || (x == y && p)) ≡ false → (nat_lt x y || (y == x && q)) ≡ false → (x ≡ y) × (p ≡ false) × (q ≡ false)
neither_greater x y p q h k = grind (arith, nat_tests)

-- two ads in range of which neither is better are equal
pub same_if_neither : (a b : AdValue) → IsInRange a → IsInRange b → better a b ≡ false → better b a ≡ false → a ≡ b
unfolding better wins_tie has_smaller_triple
same_if_neither a b ra rb ab ba =
    let by_score = neither_greater (score a) (score b) _ _ ab ba in
    let by_quality = neither_greater a.quality b.quality _ _ by_score.1 by_score.2 in
    let by_account = neither_smaller a.account b.account _ _ by_quality.1 by_quality.2 in
    let by_campaign = neither_smaller a.campaign b.campaign _ _ by_account.1 by_account.2 in
    let same_line : a.line ≡ b.line = grind (arith, nat_tests, by_campaign.1, by_campaign.2) in
    let same_score : a.bid * a.quality ≡ b.bid * a.quality = by_score.0 ∙ ap (λ q. b.bid * q) (sym by_quality.0) in
    let equal_bid = same_bid a.bid b.bid a.quality ra.1.0 same_score in
    same_ad a b by_account.0 by_campaign.0 same_line equal_bid by_quality.0

pub better-total_in_range : (a b : AdValue) → IsInRange a → IsInRange b → a ≢ b → (better a b ≡ true) ⊎ (better b a ≡ true)
better-total_in_range a b ra rb ne =
    elim (cases_Bool (better a b)) [
      | inl ab ↦ inl ab
      | inr ab ↦ inr (true_from_ne_false (better b a) (λ ba. ne (same_if_neither a b ra rb ab ba)))
    ]

better-chain : (a b c : AdValue) → better a b ≡ false → better b c ≡ false → better a c ≡ false
unfolding better wins_tie has_smaller_triple
better-chain a b c =
    greater_chain (score a) (score b) (score c) _ _ _ (
    greater_chain a.quality b.quality c.quality _ _ _ (
    smaller_chain a.account b.account c.account _ _ _ (
    smaller_chain a.campaign b.campaign c.campaign _ _ _ (λ h k. grind (arith, nat_tests)))))

-- so a sort by better has one outcome for ads in range
pub better-weak_order : IsStrictWeakOrder better
better-weak_order = record { one_way = better-asym; chain = better-chain }
