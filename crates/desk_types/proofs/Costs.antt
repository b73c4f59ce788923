-- What a placement costs a campaign on a day, and that the used money is the sum of these.
use Rattle.std.proofs.Common.{◌≡◌, ℕ, ◌+◌, ◌≤◌, Bool, true, false, ◌&&◌, cond, inl, inr, List, [], ◌∷◌, map, filter, refl, sym, ap, ◌∙◌, subst, arith}
use Rattle.std.specs.Prelude.{int_le, pos, ◌-ℤ◌, ◌≤ℤ◌, nat_lt}
use Rattle.std.specs.List.{sum_by}
use Rattle.std.proofs.lemmas.Bool.{cases_Bool, cond-true, cond-false, and_parts, and_from}
use Rattle.std.proofs.lemmas.Bool.Decides.{nat_tests}
use Rattle.std.proofs.lemmas.Int.{ints}
use Rattle.std.proofs.lemmas.List.Sums.{sum_by-cons}
use Rattle.desk_types.specs.declared.rows.Fate.{Fate}
use Rattle.desk_types.specs.declared.rows.Fate.TheVariants.{Open, Settled, Credited}
use Rattle.desk_types.specs.declared.rows.Placement.{Placement}
use Rattle.desk_types.specs.Money.{escrowed, is_escrowed, is_open, is_spent, is_shown_on, spent, used}
use Rattle.desk_types.specs.State.{State}

-- what a placement costs, spent or held
abbrev pub cost : ℕ → ℕ → ℕ → ℕ → Placement → ℕ
cost account campaign day moment p =
    cond (is_shown_on account campaign day p && is_spent p.fate) p.price 0 + cond (is_shown_on account campaign day p && is_escrowed moment p) p.price 0

-- what is escrowed later is escrowed before
pub escrowed_before : (first second : ℕ) (p : Placement) → first ≤ second → is_escrowed second p ≡ true → is_escrowed first p ≡ true
escrowed_before first second p low h =
    let parts = and_parts (is_open p.fate) (nat_lt second p.deadline) h in
    let earlier : nat_lt first p.deadline ≡ true = grind (arith, nat_tests, parts.1, low) in
    and_from (is_open p.fate) (nat_lt first p.deadline) parts.0 earlier

pub sum_by-filter : {A : Type 0} (p : A → Bool) (f : A → ℕ) (xs : List A) → sum_by f (filter p xs) ≡ sum_by (λ x. cond (p x) (f x) 0) xs
sum_by-filter p f [] = refl
sum_by-filter p f (x ∷ xs) =
    elim (cases_Bool (p x)) [
      | inl t ↦ ap (sum_by f) (cond-true (p x) (x ∷ filter p xs) (filter p xs) t) ∙ sum_by-cons f x (filter p xs)
          ∙ (λ i. sym (cond-true (p x) (f x) 0 t) i + sum_by-filter p f xs i) ∙ sym (sum_by-cons (λ y. cond (p y) (f y) 0) x xs)
      | inr t ↦ ap (sum_by f) (cond-false (p x) (x ∷ filter p xs) (filter p xs) t) ∙ sum_by-filter p f xs
          ∙ (omega arith) ∙ (λ i. sym (cond-false (p x) (f x) 0 t) i + sum_by (λ y. cond (p y) (f y) 0) xs) ∙ sym (sum_by-cons (λ y. cond (p y) (f y) 0) x xs)
    ]

pub sum_by-plus : {A : Type 0} (f g : A → ℕ) (xs : List A) → sum_by f xs + sum_by g xs ≡ sum_by (λ x. f x + g x) xs
sum_by-plus f g [] = refl
sum_by-plus f g (x ∷ xs) = omega (arith, sum_by-cons f x xs, sum_by-cons g x xs, sum_by-cons (λ y. f y + g y) x xs, sum_by-plus f g xs)

pub sum_by-agree : {A : Type 0} (f g : A → ℕ) (xs : List A) → ((x : A) → f x ≡ g x) → sum_by f xs ≡ sum_by g xs
sum_by-agree f g [] same = refl
sum_by-agree f g (x ∷ xs) same = omega (arith, sum_by-cons f x xs, sum_by-cons g x xs, sum_by-agree f g xs same, same x)

pub sum_by-map : {A : Type 0} (f : A → ℕ) (change : A → A) (xs : List A) → sum_by f (map change xs) ≡ sum_by (λ x. f (change x)) xs
sum_by-map f change [] = refl
sum_by-map f change (x ∷ xs) = omega (arith, sum_by-cons f (change x) (map change xs), sum_by-cons (λ y. f (change y)) x xs, sum_by-map f change xs)

pub sum_by-less : {A : Type 0} (f g : A → ℕ) (xs : List A) → ((x : A) → f x ≤ g x) → sum_by f xs ≤ sum_by g xs
sum_by-less f g [] less = omega arith
sum_by-less f g (x ∷ xs) less = omega (arith, sum_by-cons f x xs, sum_by-cons g x xs, sum_by-less f g xs less, less x)

-- the used money is the sum of the costs
pub used-costs : (S : State) (account campaign day : ℕ) → used S account campaign day ≡ sum_by (cost account campaign day S.moment) S.tables.placements
unfolding spent escrowed
used-costs S account campaign day =
    (λ i. sum_by-filter (λ p. is_shown_on account campaign day p && is_spent p.fate) (λ p. p.price) S.tables.placements i
    + sum_by-filter (λ p. is_shown_on account campaign day p && is_escrowed S.moment p) (λ p. p.price) S.tables.placements i)
    ∙ sum_by-plus (λ p. cond (is_shown_on account campaign day p && is_spent p.fate) p.price 0) (λ p. cond (is_shown_on account campaign day p && is_escrowed S.moment p) p.price 0) S.tables.placements

-- as time passes a placement costs no more
pub cost-later : (account campaign day first second : ℕ) (p : Placement) → first ≤ second → cost account campaign day second p ≤ cost account campaign day first p
cost-later account campaign day first second p low =
    elim (cases_Bool (is_shown_on account campaign day p && is_escrowed second p)) [
      | inl t ↦
          let parts = and_parts (is_shown_on account campaign day p) (is_escrowed second p) t in
          let before = and_from (is_shown_on account campaign day p) (is_escrowed first p) parts.0 (escrowed_before first second p low parts.1) in
          omega (arith, cond-true _ p.price 0 t, cond-true _ p.price 0 before)
      | inr t ↦ omega (arith, cond-false _ p.price 0 t)
    ]

-- a placement of another campaign or day costs nothing
pub cost-other : (account campaign day moment : ℕ) (p : Placement) → is_shown_on account campaign day p ≡ false → cost account campaign day moment p ≡ 0
cost-other account campaign day moment p other =
    (λ i. cond (other i && is_spent p.fate) p.price 0 + cond (other i && is_escrowed moment p) p.price 0)

-- an open placement costs at most its price
pub cost-open : (account campaign day moment : ℕ) (p : Placement) → p.fate ≡ Open → cost account campaign day moment p ≤ p.price
cost-open account campaign day moment p is =
    elim (cases_Bool (is_shown_on account campaign day p)) [
      | inl t ↦
          subst (λ n. n ≤ p.price) (λ i. cond (sym t i && is_spent (sym is i)) p.price 0 + cond (sym t i && (is_open (sym is i) && nat_lt moment p.deadline)) p.price 0)
          (elim (nat_lt moment p.deadline) as (λ b. 0 + cond b p.price 0 ≤ p.price) [ true ↦ omega arith | false ↦ omega arith ])
      | inr t ↦ subst (λ n. n ≤ p.price) (sym (cost-other account campaign day moment p t)) (omega arith)
    ]

-- what is free, as a sum
pub free-holds : (b s e : ℕ) → s + e ≤ b → pos 0 ≤ℤ ((pos b -ℤ pos s) -ℤ pos e)
free-holds b s e h = omega (arith, ints)

pub free-pays : (bid b s e : ℕ) → int_le (pos bid) ((pos b -ℤ pos s) -ℤ pos e) ≡ true → bid + (s + e) ≤ b
free-pays bid b s e h = grind (arith, ints)

pub free-within : (b s e : ℕ) → pos 0 ≤ℤ ((pos b -ℤ pos s) -ℤ pos e) → s + e ≤ b
free-within b s e h = grind (arith, ints)

-- a fate that goes onward leaves what the placement costs
settled_cost : (shown before : Bool) (fate : Fate) (price at : ℕ) → is_open fate ≡ true → before ≡ true
    → cond (shown && true) price 0 + cond (shown && false) price 0 ≡ cond (shown && is_spent fate) price 0 + cond (shown && (is_open fate && before)) price 0
settled_cost true true Open price at is held = omega arith
settled_cost false true Open price at is held = omega arith
settled_cost shown false Open price at is held = absurd cc
settled_cost shown before (Settled then) price at is held = absurd cc
settled_cost shown before (Credited then later) price at is held = absurd cc

pub cost-settled : (account campaign day moment at : ℕ) (p : Placement) → is_escrowed moment p ≡ true
    → cost account campaign day moment (record p { fate = Settled at }) ≡ cost account campaign day moment p
cost-settled account campaign day moment at p held =
    let parts = and_parts (is_open p.fate) (nat_lt moment p.deadline) held in
    settled_cost (is_shown_on account campaign day p) (nat_lt moment p.deadline) p.fate p.price at parts.0 parts.1

pub cost-credited : (account campaign day moment settled at : ℕ) (p : Placement) → p.fate ≡ Settled settled
    → cost account campaign day moment (record p { fate = Credited settled at }) ≡ cost account campaign day moment p
cost-credited account campaign day moment settled at p is =
    (λ i. cond (is_shown_on account campaign day p && is_spent (sym is i)) p.price 0 + cond (is_shown_on account campaign day p && (is_open (sym is i) && nat_lt moment p.deadline)) p.price 0)
