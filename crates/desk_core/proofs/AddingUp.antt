-- Counts and sums, placement by placement.
use Rattle.std.proofs.Common.{◌≡◌, ℕ, ◌+◌, ◌≤◌, Bool, ◌&&◌, cond, List, [], ◌∷◌, filter, sym, ap, ◌∙◌, arith}
use Rattle.std.specs.List.{sum_by}
use Rattle.std.proofs.lemmas.List.Elements.{filter-append}
use Rattle.std.proofs.lemmas.List.Sums.{sum_by-append}
use Rattle.desk_types.specs.declared.rows.Placement.{Placement}
use Rattle.desk_types.specs.Money.{is_escrowed, is_shown_on, is_spent}
use Rattle.desk_types.specs.Reports.{is_credited}
use Rattle.desk_core.specs.declared.sums.Sums.{Sums}
use Rattle.desk_core.specs.Sums.{AreOf, both, sums_of}

abbrev sums : ℕ → ℕ → ℕ → ℕ → ℕ → Sums
sums shown clicks spent escrowed credited = record { shown = shown; clicks = clicks; spent = spent; escrowed = escrowed; credited = credited }

prices-cons : (test : Placement → Bool) (p : Placement) (ps : List Placement) → sum_by (λ (q : Placement). q.price) (filter test (p ∷ ps)) ≡ sum_by (λ (q : Placement). q.price) (filter test (p ∷ [])) + sum_by (λ (q : Placement). q.price) (filter test ps)
prices-cons test p ps =
    ap (sum_by (λ (q : Placement). q.price)) (filter-append test (p ∷ []) ps) ∙ sum_by-append (λ (q : Placement). q.price) (filter test (p ∷ [])) (filter test ps)

pub sums-cons : (a c d m : ℕ) (p : Placement) (ps : List Placement) → sums_of a c d m (p ∷ ps) ≡ both (sums_of a c d m (p ∷ [])) (sums_of a c d m ps)
sums-cons a c d m p ps =
    let shown = sum_by-append (λ (q : Placement). cond (is_shown_on a c d q) 1 0) (p ∷ []) ps in
    let clicks = sum_by-append (λ (q : Placement). cond (is_shown_on a c d q && is_spent q.fate) 1 0) (p ∷ []) ps in
    let spent = prices-cons (λ q. is_shown_on a c d q && is_spent q.fate) p ps in
    let escrowed = prices-cons (λ q. is_shown_on a c d q && is_escrowed m q) p ps in
    let credited = prices-cons (λ q. is_shown_on a c d q && is_credited q.fate) p ps in
    (λ i. sums (shown i) (clicks i) (spent i) (escrowed i) (credited i))

both-assoc : (s t u : Sums) → both (both s t) u ≡ both s (both t u)
both-assoc s t u =
    let add : (x y z : ℕ) → x + y + z ≡ x + (y + z) = λ x y z. omega arith in
    (λ i. sums (add s.shown t.shown u.shown i) (add s.clicks t.clicks u.clicks i) (add s.spent t.spent u.spent i) (add s.escrowed t.escrowed u.escrowed i) (add s.credited t.credited u.credited i))

-- before the first placement, and behind the last
pub sums_first : (t : Sums) → both (sums 0 0 0 0 0) t ≡ t
sums_first t =
    let add : (x : ℕ) → 0 + x ≡ x = λ x. omega arith in
    (λ i. sums (add t.shown i) (add t.clicks i) (add t.spent i) (add t.escrowed i) (add t.credited i))

pub sums_last : (a c d m : ℕ) (s : Sums) → both s (sums_of a c d m []) ≡ s
sums_last a c d m s =
    let add : (x : ℕ) → x + 0 ≡ x = λ x. omega arith in
    (λ i. sums (add s.shown i) (add s.clicks i) (add s.spent i) (add s.escrowed i) (add s.credited i))

-- one placement more
pub sums_more : (a c d m : ℕ) (s : Sums) (p : Placement) (left rest : List Placement) → left ≡ p ∷ rest → both (both s (sums_of a c d m (p ∷ []))) (sums_of a c d m rest) ≡ both s (sums_of a c d m left)
sums_more a c d m s p left rest is =
    both-assoc s (sums_of a c d m (p ∷ [])) (sums_of a c d m rest) ∙ ap (both s) (sym (ap (sums_of a c d m) is ∙ sums-cons a c d m p rest))

pub AreOf-few : (n m : ℕ) (s : Sums) → n ≤ m → AreOf n s → AreOf m s
AreOf-few n m s low h = record {
  shown = omega (arith, low, h.shown);
  clicks = omega (arith, low, h.clicks);
  spent = omega (arith, low, h.spent);
  escrowed = omega (arith, low, h.escrowed);
  credited = omega (arith, low, h.credited);
}
