-- The leading ads with one more, which stands behind the better ones and in place of a worse one of its account.
use Rattle.std.proofs.Common.{◌≡◌, ◌≢◌, ℕ, zero, suc, Bool, true, false, not, ◌==◌, ◌||◌, cond, inl, inr, List, [], ◌∷◌, ◌++◌, length, take, refl, sym, ap, ◌∙◌}
use Rattle.std.specs.List.{filter, list_any}
use Rattle.std.proofs.lemmas.Bool.{cases_Bool, cond-true, cond-false, both_ways, not_from_true, not_from_false, eq-eqb, ne_eqb, eqb-true, or_parts}
use Rattle.auction_types.specs.AdValue.{AdValue}
use Rattle.auction_types.specs.Order.{better}
use Rattle.auction_types.proofs.OrderLemmas.{better-asym, better-weak_order}
use Rattle.auction_types.proofs.Members.{Has, Has-filter}
use Rattle.auction_types.proofs.Ranking.{AreAbove, IsRanked}
use Rattle.auction_types.proofs.Accounts.{AreApart}
use Rattle.rank_core.proofs.FirstsLemmas.{firsts, firsts-ranked, is_of, is_other, is_other-from, filter_all, IsInOrder}

unfoldable pub with_ad : AdValue → List AdValue → List AdValue
with_ad a [] = a ∷ []
with_ad a (y ∷ ys) = cond (better y a) (cond (is_of a y) (y ∷ ys) (y ∷ with_ad a ys)) (a ∷ filter (is_other a) (y ∷ ys))

-- its three cases
with_same : (a y : AdValue) (ys : List AdValue) → better y a ≡ true → is_of a y ≡ true → with_ad a (y ∷ ys) ≡ y ∷ ys
unfolding with_ad
with_same a y ys wins same = cond-true _ _ _ wins ∙ cond-true _ _ _ same

with_later : (a y : AdValue) (ys : List AdValue) → better y a ≡ true → is_of a y ≡ false → with_ad a (y ∷ ys) ≡ y ∷ with_ad a ys
unfolding with_ad
with_later a y ys wins other = cond-true _ _ _ wins ∙ cond-false _ _ _ other

with_here : (a y : AdValue) (ys : List AdValue) → better y a ≡ false → with_ad a (y ∷ ys) ≡ a ∷ filter (is_other a) (y ∷ ys)
unfolding with_ad
with_here a y ys loses = cond-false _ _ _ loses

-- none of the list is better
with_none : (a : AdValue) (ys : List AdValue) → ((y : AdValue) → Has ys y → better y a ≡ false) → with_ad a ys ≡ a ∷ filter (is_other a) ys
unfolding with_ad
with_none a [] h = refl
with_none a (y ∷ ys) h = with_here a y ys (h y (inl refl))

take_length : (ys : List AdValue) → take (length ys) ys ≡ ys
take_length [] = refl
take_length (y ∷ ys) = ap (λ zs. y ∷ zs) (take_length ys)

-- all of the list are better
pub take_with-all : (a : AdValue) (ys : List AdValue) → AreAbove ys a → take (length ys) (with_ad a ys) ≡ ys
unfolding with_ad
take_with-all a [] h = refl
take_with-all a (y ∷ ys) h =
    elim (cases_Bool (is_of a y)) [
      | inl same ↦ ap (take (suc (length ys))) (with_same a y ys (h y (inl refl)) same) ∙ take_length (y ∷ ys)
      | inr other ↦ ap (take (suc (length ys))) (with_later a y ys (h y (inl refl)) other) ∙ ap (λ zs. y ∷ zs) (take_with-all a ys (λ x k. h x (inr k)))
    ]

other_found : (p q : Bool) → p ≡ false → (p || q) ≡ true → q ≡ true
other_found p q none found = sym (ap (λ t. t || q) none) ∙ found

-- some better one is of its account
pub with_better_one : (a : AdValue) (front back : List AdValue) → AreAbove front a → list_any (is_of a) front ≡ true → with_ad a (front ++ back) ≡ front ++ back
unfolding with_ad
with_better_one a [] back h found = absurd cc
with_better_one a (y ∷ front) back h found =
    elim (cases_Bool (is_of a y)) [
      | inl same ↦ with_same a y (front ++ back) (h y (inl refl)) same
      | inr other ↦
          with_later a y (front ++ back) (h y (inl refl)) other
          ∙ ap (λ zs. y ∷ zs) (with_better_one a front back (λ x k. h x (inr k)) (other_found _ _ other found))
    ]

-- the head of the list, if there is one, is not better
abbrev pub IsNotBeaten : AdValue → List AdValue → Type 0
IsNotBeaten a [] = Unit {0}
IsNotBeaten a (y ∷ ys) = better y a ≡ false

-- no better one is of its account
pub with_new_one : (a : AdValue) (front back : List AdValue) → AreAbove front a → list_any (is_of a) front ≡ false → IsNotBeaten a back → with_ad a (front ++ back) ≡ front ++ (a ∷ filter (is_other a) back)
unfolding with_ad
with_new_one a [] [] h none first = refl
with_new_one a [] (y ∷ back) h none first = with_here a y back first
with_new_one a (y ∷ front) back h none first =
    with_later a y (front ++ back) (h y (inl refl)) (or_parts _ _ none).0
    ∙ ap (λ zs. y ∷ zs) (with_new_one a front back (λ x k. h x (inr k)) (or_parts _ _ none).1 first)

passes : (p : AdValue → Bool) (y : AdValue) (ys : List AdValue) → p y ≡ true → filter p (y ∷ ys) ≡ y ∷ filter p ys
passes p y ys t = cond-true _ _ _ t

fails : (p : AdValue → Bool) (y : AdValue) (ys : List AdValue) → p y ≡ false → filter p (y ∷ ys) ≡ filter p ys
fails p y ys f = cond-false _ _ _ f

-- filters by two tests
filter_again : (p q : AdValue → Bool) → ((z : AdValue) → p z ≡ q z) → (zs : List AdValue) → filter p (filter q zs) ≡ filter p zs
filter_again p q same [] = refl
filter_again p q same (z ∷ zs) =
    elim (cases_Bool (p z)) [
      | inl t ↦
          ap (filter p) (cond-true _ (z ∷ filter q zs) (filter q zs) (sym (same z) ∙ t))
          ∙ cond-true _ (z ∷ filter p (filter q zs)) (filter p (filter q zs)) t
          ∙ ap (λ ys. z ∷ ys) (filter_again p q same zs)
          ∙ sym (cond-true _ (z ∷ filter p zs) (filter p zs) t)
      | inr f ↦
          ap (filter p) (cond-false _ (z ∷ filter q zs) (filter q zs) (sym (same z) ∙ f))
          ∙ filter_again p q same zs
          ∙ sym (cond-false _ (z ∷ filter p zs) (filter p zs) f)
    ]

both_at : (p q : AdValue → Bool) (z : AdValue) (zs : List AdValue) (b c : Bool) → p z ≡ b → q z ≡ c → filter p (filter q zs) ≡ filter q (filter p zs) → filter p (filter q (z ∷ zs)) ≡ filter q (filter p (z ∷ zs))
both_at p q z zs true true pt qt rest =
    ap (filter p) (passes q z zs qt) ∙ passes p z (filter q zs) pt ∙ ap (λ ys. z ∷ ys) rest ∙ sym (ap (filter q) (passes p z zs pt) ∙ passes q z (filter p zs) qt)
both_at p q z zs true false pt qf rest =
    ap (filter p) (fails q z zs qf) ∙ rest ∙ sym (ap (filter q) (passes p z zs pt) ∙ fails q z (filter p zs) qf)
both_at p q z zs false true pf qt rest =
    ap (filter p) (passes q z zs qt) ∙ fails p z (filter q zs) pf ∙ rest ∙ sym (ap (filter q) (fails p z zs pf))
both_at p q z zs false false pf qf rest =
    ap (filter p) (fails q z zs qf) ∙ rest ∙ sym (ap (filter q) (fails p z zs pf))

filter_both : (p q : AdValue → Bool) (zs : List AdValue) → filter p (filter q zs) ≡ filter q (filter p zs)
filter_both p q [] = refl
filter_both p q (z ∷ zs) = both_at p q z zs (p z) (q z) refl refl (filter_both p q zs)

-- with the ads of another account alone
gone_account : (x y : AdValue) → is_other x y ≡ false → y.account ≡ x.account
gone_account x y goes =
    elim (cases_Bool (is_of x y)) [
      | inl same ↦ eqb-true _ _ same
      | inr other ↦ absurd (both_ways (is_other x y) goes (not_from_false _ other))
    ]

others_agree : (x a : AdValue) → x.account ≡ a.account → (z : AdValue) → is_other x z ≡ is_other a z
others_agree x a e z = ap (λ n. not (z.account == n)) e

without_own : (x a : AdValue) (ys : List AdValue) → x.account ≡ a.account → filter (is_other x) (with_ad a ys) ≡ filter (is_other x) ys
unfolding with_ad
without_own x a [] e = fails (is_other x) a [] (not_from_true _ (eq-eqb _ _ (sym e)))
without_own x a (y ∷ ys) e =
    elim (cases_Bool (better y a)) [
      | inl wins ↦ elim (cases_Bool (is_of a y)) [
        | inl same ↦ ap (filter (is_other x)) (with_same a y ys wins same)
        | inr other ↦
            ap (filter (is_other x)) (with_later a y ys wins other)
            ∙ ap (λ zs. cond (is_other x y) (y ∷ zs) zs) (without_own x a ys e)
      ]
      | inr loses ↦
          ap (filter (is_other x)) (with_here a y ys loses)
          ∙ fails (is_other x) a (filter (is_other a) (y ∷ ys)) (not_from_true _ (eq-eqb _ _ (sym e)))
          ∙ filter_again (is_other x) (is_other a) (others_agree x a e) (y ∷ ys)
    ]

none_behind : (a y : AdValue) (ys : List AdValue) → IsRanked (y ∷ ys) → better y a ≡ false → (p : AdValue → Bool) → (z : AdValue) → Has (filter p ys) z → better z a ≡ false
none_behind a y ys h loses p z k = better-weak_order.chain z y a (better-asym y z (h.0 z (Has-filter p ys z k).0)) loses

without_other : (x a : AdValue) (ys : List AdValue) → x.account ≢ a.account → IsRanked ys → filter (is_other x) (with_ad a ys) ≡ with_ad a (filter (is_other x) ys)
unfolding with_ad
without_other x a [] other h = passes (is_other x) a [] (is_other-from x a other)
without_other x a (y ∷ ys) other h =
    elim (cases_Bool (is_other x y)) [
      | inl stays ↦ elim (cases_Bool (better y a)) [
        | inl wins ↦ elim (cases_Bool (is_of a y)) [
          | inl same ↦
              ap (filter (is_other x)) (with_same a y ys wins same)
              ∙ passes (is_other x) y ys stays
              ∙ sym (ap (with_ad a) (passes (is_other x) y ys stays) ∙ with_same a y (filter (is_other x) ys) wins same)
          | inr later ↦
              ap (filter (is_other x)) (with_later a y ys wins later)
              ∙ passes (is_other x) y (with_ad a ys) stays
              ∙ ap (λ zs. y ∷ zs) (without_other x a ys other h.1)
              ∙ sym (ap (with_ad a) (passes (is_other x) y ys stays) ∙ with_later a y (filter (is_other x) ys) wins later)
        ]
        | inr loses ↦
            ap (filter (is_other x)) (with_here a y ys loses)
            ∙ passes (is_other x) a (filter (is_other a) (y ∷ ys)) (is_other-from x a other)
            ∙ ap (λ zs. a ∷ zs) (filter_both (is_other x) (is_other a) (y ∷ ys))
            ∙ ap (λ zs. a ∷ filter (is_other a) zs) (passes (is_other x) y ys stays)
            ∙ sym (ap (with_ad a) (passes (is_other x) y ys stays) ∙ with_here a y (filter (is_other x) ys) loses)
      ]
      | inr goes ↦ elim (cases_Bool (better y a)) [
        | inl wins ↦
            let of_x : y.account ≡ x.account = gone_account x y goes in
            ap (filter (is_other x)) (with_later a y ys wins (ne_eqb _ _ (λ e. other (sym of_x ∙ e))))
            ∙ fails (is_other x) y (with_ad a ys) goes
            ∙ without_other x a ys other h.1
            ∙ sym (ap (with_ad a) (fails (is_other x) y ys goes))
        | inr loses ↦
            ap (filter (is_other x)) (with_here a y ys loses)
            ∙ passes (is_other x) a (filter (is_other a) (y ∷ ys)) (is_other-from x a other)
            ∙ ap (λ zs. a ∷ zs) (filter_both (is_other x) (is_other a) (y ∷ ys))
            ∙ ap (λ zs. a ∷ filter (is_other a) zs) (fails (is_other x) y ys goes)
            ∙ sym (ap (with_ad a) (fails (is_other x) y ys goes)
            ∙ with_none a (filter (is_other x) ys) (none_behind a y ys h loses (is_other x)))
      ]
    ]

-- an ad put behind the better ones of a list
unfoldable pub inserted : AdValue → List AdValue → List AdValue
inserted a [] = a ∷ []
inserted a (x ∷ xs) = cond (better x a) (x ∷ inserted a xs) (a ∷ (x ∷ xs))

pub firsts-inserted : (a : AdValue) (xs : List AdValue) → IsInOrder xs → firsts (inserted a xs) ≡ with_ad a (firsts xs)
unfolding firsts with_ad inserted
firsts-inserted a [] h = refl
firsts-inserted a (x ∷ xs) h =
    elim (cases_Bool (better x a)) [
      | inl wins ↦
          ap firsts (cond-true _ (x ∷ inserted a xs) (a ∷ (x ∷ xs)) wins)
          ∙ ap (λ ys. x ∷ filter (is_other x) ys) (firsts-inserted a xs h.1)
          ∙ elim (cases_Bool (is_of a x)) [
            | inl same ↦
                ap (λ ys. x ∷ ys) (without_own x a (firsts xs) (eqb-true _ _ same))
                ∙ sym (with_same a x (filter (is_other x) (firsts xs)) wins same)
            | inr other ↦
                ap (λ ys. x ∷ ys) (without_other x a (firsts xs) (λ e. both_ways (is_of a x) other (eq-eqb _ _ e)) (firsts-ranked xs h.1))
                ∙ sym (with_later a x (filter (is_other x) (firsts xs)) wins other)
          ]
      | inr loses ↦
          ap firsts (cond-false _ (x ∷ inserted a xs) (a ∷ (x ∷ xs)) loses)
          ∙ sym (with_here a x (filter (is_other x) (firsts xs)) loses)
    ]

-- the first of them
take_again : (n : ℕ) (ys : List AdValue) → take n (take n ys) ≡ take n ys
take_again zero ys = refl
take_again (suc n) [] = refl
take_again (suc n) (y ∷ ys) = ap (λ zs. y ∷ zs) (take_again n ys)

pub Has-take : (n : ℕ) (ys : List AdValue) (x : AdValue) → Has (take n ys) x → Has ys x
Has-take zero ys x k = absurd (elim k [ ])
Has-take (suc n) [] x k = k
Has-take (suc n) (y ∷ ys) x (inl is) = inl is
Has-take (suc n) (y ∷ ys) x (inr k) = inr (Has-take n ys x k)

pub IsRanked-take : (n : ℕ) (ys : List AdValue) → IsRanked ys → IsRanked (take n ys)
IsRanked-take zero ys h = tt
IsRanked-take (suc n) [] h = tt
IsRanked-take (suc n) (y ∷ ys) h = (λ z k. h.0 z (Has-take n ys z k), IsRanked-take n ys h.1)

take_others : (a : AdValue) (n : ℕ) (zs : List AdValue) → AreApart zs → take n (filter (is_other a) (take (suc n) zs)) ≡ take n (filter (is_other a) zs)
take_others a n [] h = refl
take_others a zero (z ∷ zs) h = refl
take_others a (suc n) (z ∷ zs) h =
    elim (cases_Bool (is_other a z)) [
      | inl stays ↦
          ap (take (suc n)) (passes (is_other a) z (take (suc n) zs) stays)
          ∙ ap (λ ys. z ∷ ys) (take_others a n zs h.1)
          ∙ sym (ap (take (suc n)) (passes (is_other a) z zs stays))
      | inr goes ↦
          let apart : (x : AdValue) → Has zs x → is_other a x ≡ true = λ x k. is_other-from a x (λ e. h.0 x k (gone_account a z goes ∙ e)) in
          ap (take (suc n)) (fails (is_other a) z (take (suc n) zs) goes
          ∙ filter_all (is_other a) (take (suc n) zs) (λ x k. apart x (Has-take (suc n) zs x k)))
          ∙ take_again (suc n) zs
          ∙ sym (ap (take (suc n)) (fails (is_other a) z zs goes ∙ filter_all (is_other a) zs apart))
    ]

pub take_with : (a : AdValue) (n : ℕ) (ys : List AdValue) → AreApart ys → take n (with_ad a (take n ys)) ≡ take n (with_ad a ys)
unfolding with_ad
take_with a zero ys h = refl
take_with a (suc n) [] h = refl
take_with a (suc n) (y ∷ ys) h =
    elim (cases_Bool (better y a)) [
      | inl wins ↦ elim (cases_Bool (is_of a y)) [
        | inl same ↦
            ap (take (suc n)) (with_same a y (take n ys) wins same)
            ∙ ap (λ zs. y ∷ zs) (take_again n ys)
            ∙ sym (ap (take (suc n)) (with_same a y ys wins same))
        | inr other ↦
            ap (take (suc n)) (with_later a y (take n ys) wins other)
            ∙ ap (λ zs. y ∷ zs) (take_with a n ys h.1)
            ∙ sym (ap (take (suc n)) (with_later a y ys wins other))
      ]
      | inr loses ↦
          ap (take (suc n)) (with_here a y (take n ys) loses)
          ∙ ap (λ zs. a ∷ zs) (take_others a n (y ∷ ys) h)
          ∙ sym (ap (take (suc n)) (with_here a y ys loses))
    ]
