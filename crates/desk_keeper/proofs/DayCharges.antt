-- The totals of placements by campaign and day.
use Rattle.std.proofs.Common.{◌≡◌, ℕ, ◌+◌, Bool, true, false, ◌==◌, ◌&&◌, ◌||◌, cond, inl, inr, List, [], ◌∷◌, ◌++◌, Option, Some, unwrap_or, refl, sym, ap, ◌∙◌, arith}
use Rattle.std.proofs.lemmas.Bool.{and_parts, cases_Bool, cond-true, cond-false, eqb-true}
use Rattle.std.proofs.lemmas.List.Sums.{sum_by_push}
use Rattle.desk_types.specs.declared.rows.Placement.{Placement}
use Rattle.desk_types.specs.Day.{day_of}
use Rattle.desk_types.specs.Money.{is_escrowed, is_shown_on, is_spent}
use Rattle.desk_types.specs.Rules.{is_charged}
use Rattle.desk_types.proofs.Costs.{sum_by-filter}
use Rattle.desk_keeper.specs.DayTotals.{charged, is_same_day}

-- with one placement more
pub charged_more : (account campaign day moment : ℕ) (before : List Placement) (p : Placement)
    → charged account campaign day moment (before ++ p ∷ []) ≡ charged account campaign day moment before + cond (is_charged account campaign day moment p) p.price 0
charged_more account campaign day moment before p =
    let test : Placement → Bool = is_charged account campaign day moment in
    sum_by-filter test (λ q. q.price) (before ++ p ∷ []) ∙ sum_by_push (λ (q : Placement). cond (test q) q.price 0) before p
    ∙ ap (λ n. n + cond (test p) p.price 0) (sym (sum_by-filter test (λ q. q.price) before))

both_true : (x y : Bool) → x ≡ true → (x && y) ≡ y
both_true x y h = ap (λ b. b && y) h

both_false : (x y : Bool) → x ≡ false → (x && y) ≡ false
both_false x y h = ap (λ b. b && y) h

-- the numbers of a campaign and a day that are those of another
pub same_day : (pa pc pd a c d : ℕ) → (pa == a && (pc == c && pd == d)) ≡ true → (pa ≡ a) × (pc ≡ c) × (pd ≡ d)
same_day pa pc pd a c d h =
    let first = and_parts (pa == a) (pc == c && pd == d) h in
    let rest = and_parts (pc == c) (pd == d) first.1 in
    (eqb-true pa a first.0, eqb-true pc c rest.0, eqb-true pd d rest.1)

-- a placement of another campaign or day adds nothing
pub charged_other : (account campaign day moment : ℕ) (before : List Placement) (p : Placement) → is_shown_on account campaign day p ≡ false
    → charged account campaign day moment (before ++ p ∷ []) ≡ charged account campaign day moment before
charged_other account campaign day moment before p t =
    let cost : cond (is_charged account campaign day moment p) p.price 0 ≡ 0 =
    ap (λ b. cond b p.price 0) (both_false (is_shown_on account campaign day p) (is_spent p.fate || is_escrowed moment p) t) in
    omega (arith, charged_more account campaign day moment before p, cost)

and_assoc : (x y z : Bool) → ((x && y) && z) ≡ (x && (y && z))
and_assoc true y z = refl
and_assoc false y z = refl

put_if : {A : Type 0} (b b' : Bool) (x y : A) → b ≡ b' → cond b x y ≡ cond b' x y
put_if b b' x y h = ap (λ k. cond k x y) h

-- the total of the placement's campaign and day is put
pub total_put : (moment total : ℕ) (p : Placement) (before : List Placement) (old : ℕ → ℕ → ℕ → ℕ) → ((a c d : ℕ) → old a c d ≡ charged a c d moment before)
    → total ≡ old p.account p.campaign (day_of p.shown) + cond (is_spent p.fate || is_escrowed moment p) p.price 0
    → (a c d : ℕ) → cond (is_same_day (p.account, p.campaign, day_of p.shown) (a, c, d)) total (old a c d) ≡ charged a c d moment (before ++ p ∷ [])
total_put moment total p before old are is a c d =
    let more = charged_more a c d moment before p in
    let counts = is_spent p.fate || is_escrowed moment p in
    put_if (is_same_day (p.account, p.campaign, day_of p.shown) (a, c, d)) (is_shown_on a c d p) total (old a c d) (and_assoc (p.account == a) (p.campaign == c) (day_of p.shown == d))
    ∙ elim (cases_Bool (is_shown_on a c d p)) [
      | inl t ↦
          let same = same_day p.account p.campaign (day_of p.shown) a c d t in
          let here : old p.account p.campaign (day_of p.shown) ≡ charged a c d moment before =
          (λ i. old (same.0 i) (same.1 i) (same.2 i)) ∙ are a c d in
          let cost : cond (is_charged a c d moment p) p.price 0 ≡ cond counts p.price 0 = ap (λ b. cond b p.price 0) (both_true (is_shown_on a c d p) counts t) in
          cond-true (is_shown_on a c d p) total (old a c d) t ∙ (omega (arith, is, here, cost, more))
      | inr t ↦ cond-false (is_shown_on a c d p) total (old a c d) t ∙ are a c d ∙ sym (charged_other a c d moment before p t)
    ]

pub unwrap_cond : (b : Bool) (x : ℕ) (o : Option ℕ) → unwrap_or (cond b (Some x) o) 0 ≡ cond b x (unwrap_or o 0)
unwrap_cond true x o = refl
unwrap_cond false x o = refl

pub counted : (b : Bool) (total old price : ℕ) → b ≡ true → total ≡ old + price → total ≡ old + cond b price 0
counted b total old price t is = is ∙ ap (λ n. old + n) (sym (cond-true {A = ℕ} b price 0 t))

pub uncounted : (b : Bool) (total old price : ℕ) → b ≡ false → total ≡ old → total ≡ old + cond b price 0
uncounted b total old price t is = omega (arith, is, cond-false {A = ℕ} b price 0 t)
