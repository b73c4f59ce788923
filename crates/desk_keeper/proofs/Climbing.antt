-- Rows each of which has a greater key than the one before stand in order.
use Rattle.std.proofs.Common.{◌≡◌, ℕ, zero, suc, ◌+◌, ◌-◌, ◌<◌, true, List, length, get_or, subst, arith}
use Rattle.desk_types.specs.Keys.{is_less_key}
use Rattle.desk_types.specs.Sound.{AreInOrder}
use Rattle.desk_types.proofs.Puts.{less-trans}

-- each of the first rows has a lesser key than the next one
abbrev pub Climbs : {A : Type 0} → (A → List ℕ) → List A → ℕ → Type 0
Climbs {A} key rows bound = (k : ℕ) (d : A) → k + 1 < bound → is_less_key (key (get_or rows k d)) (key (get_or rows (k + 1) d)) ≡ true

climbs_by : {A : Type 0} (key : A → List ℕ) (rows : List A) (bound i n : ℕ) (d : A) → Climbs key rows bound → i + (n + 1) < bound
    → is_less_key (key (get_or rows i d)) (key (get_or rows (i + (n + 1)) d)) ≡ true
climbs_by key rows bound i zero d h low = h i d low
climbs_by key rows bound i (suc n) d h low =
    let far : i + (n + 1) + 1 ≡ i + (suc n + 1) = omega arith in
    subst (λ m. is_less_key (key (get_or rows i d)) (key (get_or rows m d)) ≡ true) far
    (less-trans (key (get_or rows i d)) (key (get_or rows (i + (n + 1)) d)) (key (get_or rows (i + (n + 1) + 1) d))
    (climbs_by key rows bound i n d h (omega (arith, low))) (h (i + (n + 1)) d (omega (arith, low))))

pub in_order_climbing : {A : Type 0} (key : A → List ℕ) (rows : List A) → Climbs key rows (length rows) → AreInOrder key rows
in_order_climbing key rows h i j d before within =
    let steps : i + ((j - i - 1) + 1) ≡ j = omega (arith, before) in
    subst (λ m. is_less_key (key (get_or rows i d)) (key (get_or rows m d)) ≡ true) steps
    (climbs_by key rows (length rows) i (j - i - 1) d h (omega (arith, before, within)))
