-- What is spent or escrowed is the sum of the prices that count.
use Rattle.std.proofs.Common.{◌≡◌, ℕ, ◌+◌, Bool, true, false, ◌&&◌, ◌||◌, cond, inl, inr, List, [], ◌∷◌, ◌==◌, reverse, refl, sym, ap, ◌∙◌, arith}
use Rattle.std.specs.Prelude.{nat_lt}
use Rattle.std.specs.List.{filter, sum_by}
use Rattle.std.proofs.lemmas.Bool.{cases_Bool, cond-true, cond-false}
use Rattle.std.proofs.lemmas.List.{reverse-append}
use Rattle.std.proofs.lemmas.List.Elements.{filter_agree}
use Rattle.std.proofs.lemmas.List.Sums.{sum_by-append, sum_by-cons}
use Rattle.desk_types.specs.declared.rows.Fate.{Fate}
use Rattle.desk_types.specs.declared.rows.Fate.TheVariants.{Open, Settled, Credited}
use Rattle.desk_types.specs.declared.rows.Placement.{Placement}
use Rattle.desk_types.specs.Money.{escrowed, is_escrowed, is_open, is_shown_on, is_spent, spent, used}
use Rattle.desk_types.specs.Day.{day_of}
use Rattle.desk_types.specs.State.{State}
use Rattle.placements.specs.Linked.{is_of_day}
use Rattle.placements.proofs.Left.{filter-reverse, filter_both}
use Rattle.desk_types.specs.Rules.{is_charged}

-- a price is not both spent and escrowed
cost_once : (shown before : Bool) (fate : Fate) (price : ℕ) → cond (shown && is_spent fate) price 0 + cond (shown && (is_open fate && before)) price 0 ≡ cond (shown && (is_spent fate || (is_open fate && before))) price 0
cost_once true true Open price = omega arith
cost_once true false Open price = omega arith
cost_once false before Open price = refl
cost_once true before (Settled at) price = omega arith
cost_once false before (Settled at) price = refl
cost_once true before (Credited at later) price = omega arith
cost_once false before (Credited at later) price = refl

sum_filter-cons : {A : Type 0} (p : A → Bool) (f : A → ℕ) (x : A) (xs : List A) → sum_by f (filter p (x ∷ xs)) ≡ cond (p x) (f x) 0 + sum_by f (filter p xs)
sum_filter-cons p f x xs =
    elim (cases_Bool (p x)) [
      | inl t ↦ ap (sum_by f) (cond-true (p x) (x ∷ filter p xs) (filter p xs) t) ∙ sum_by-cons f x (filter p xs)
          ∙ ap (λ n. n + sum_by f (filter p xs)) (sym (cond-true (p x) (f x) 0 t))
      | inr t ↦ ap (sum_by f) (cond-false (p x) (x ∷ filter p xs) (filter p xs) t) ∙ omega (arith, cond-false {A = ℕ} (p x) (f x) 0 t)
    ]

sum_charged : (account campaign day moment : ℕ) (ps : List Placement)
    → sum_by (λ p. p.price) (filter (λ p. is_shown_on account campaign day p && is_spent p.fate) ps) + sum_by (λ p. p.price) (filter (λ p. is_shown_on account campaign day p && is_escrowed moment p) ps)
    ≡ sum_by (λ p. p.price) (filter (is_charged account campaign day moment) ps)
sum_charged account campaign day moment [] = refl
sum_charged account campaign day moment (p ∷ ps) =
    omega (
      arith,
      sum_filter-cons (λ (q : Placement). is_shown_on account campaign day q && is_spent q.fate) (λ (q : Placement). q.price) p ps,
      sum_filter-cons (λ (q : Placement). is_shown_on account campaign day q && is_escrowed moment q) (λ (q : Placement). q.price) p ps,
      sum_filter-cons (is_charged account campaign day moment) (λ (q : Placement). q.price) p ps,
      cost_once (is_shown_on account campaign day p) (nat_lt moment p.deadline) p.fate p.price,
      sum_charged account campaign day moment ps,
    )

used-charged : (S : State) (account campaign day : ℕ) → used S account campaign day ≡ sum_by (λ p. p.price) (filter (is_charged account campaign day S.moment) S.tables.placements)
unfolding spent escrowed
used-charged S account campaign day = sum_charged account campaign day S.moment S.tables.placements

-- the sum does not depend on the order
sum_by-reverse : {A : Type 0} (f : A → ℕ) (xs : List A) → sum_by f (reverse xs) ≡ sum_by f xs
sum_by-reverse f [] = refl
sum_by-reverse f (x ∷ xs) =
    omega (arith, ap (sum_by f) (reverse-append (x ∷ []) xs), sum_by-append f (reverse xs) (x ∷ []), sum_by-cons f x [], sum_by-cons f x xs, sum_by-reverse f xs)

own_day : (account campaign day charged : Bool) → ((account && day) && ((account && (campaign && day)) && charged)) ≡ ((account && (campaign && day)) && charged)
own_day true true true charged = refl
own_day true false true charged = refl
own_day true true false charged = refl
own_day true false false charged = refl
own_day false campaign day charged = refl

-- those that count are of the account and the day
charged_own : (account campaign day moment : ℕ) (p : Placement) → (is_of_day account day p && is_charged account campaign day moment p) ≡ is_charged account campaign day moment p
charged_own account campaign day moment p = own_day (p.account == account) (p.campaign == campaign) (day_of p.shown == day) (is_spent p.fate || is_escrowed moment p)

-- the sum over the account's placements of the day, in any order
pub used-own : (S : State) (account campaign day : ℕ)
    → sum_by (λ p. p.price) (filter (is_charged account campaign day S.moment) (reverse (filter (is_of_day account day) S.tables.placements))) ≡ used S account campaign day
used-own S account campaign day =
    let test = is_charged account campaign day S.moment in
    ap (sum_by (λ (p : Placement). p.price)) (filter-reverse test (filter (is_of_day account day) S.tables.placements)
    ∙ ap reverse (filter_both (is_of_day account day) test S.tables.placements ∙ filter_agree (λ p. is_of_day account day p && test p) test (charged_own account campaign day S.moment) S.tables.placements))
    ∙ sum_by-reverse (λ (p : Placement). p.price) (filter test S.tables.placements)
    ∙ sym (used-charged S account campaign day)
