-- The first ad of each account of a list, and that of a list in order they are the ranked entrants.
use Rattle.std.proofs.Common.{◌≡◌, ◌≢◌, Bool, true, false, not, ◌==◌, inl, inr, List, [], ◌∷◌, refl, sym, ap, subst, ◌∙◌}
use Rattle.std.specs.List.{filter}
use Rattle.std.proofs.lemmas.Bool.{cases_Bool, cond-true, cond-false, both_ways, not-true, not_from_false, not_from_true, eq-eqb, ne_eqb, eqb-true}
use Rattle.auction_types.specs.AdValue.{AdValue, IsInRange}
use Rattle.auction_types.specs.Order.{better}
use Rattle.auction_types.specs.Page.{entrants}
use Rattle.auction_types.proofs.OrderLemmas.{better-irreflexive, same_if_neither}
use Rattle.auction_types.proofs.Members.{Has, Has-filter, Has-filtered, SameCounts, SameCounts-refl, SameCounts-sym, SameCounts-trans, SameCounts-cons, SameCounts-swap}
use Rattle.auction_types.proofs.Ranking.{IsRanked, IsRanking}
use Rattle.auction_types.proofs.Accounts.{AreApart, better_one, right_one}
use Rattle.auction_types.proofs.Entrants.{entrant_of, entrant_from, best_beats, best_from, entrants-apart}

-- whether y is of another account than x
abbrev pub is_other : AdValue → AdValue → Bool
is_other x y = not (y.account == x.account)

-- the first ad of each account
unfoldable pub firsts : List AdValue → List AdValue
firsts [] = []
firsts (x ∷ xs) = x ∷ filter (is_other x) (firsts xs)

-- whether y is of x's account
abbrev pub is_of : AdValue → AdValue → Bool
is_of x y = y.account == x.account

pub is_other-true : (x y : AdValue) → is_other x y ≡ true → x.account ≢ y.account
is_other-true x y h e = both_ways (is_of x y) (not-true _ h) (eq-eqb _ _ (sym e))

pub is_other-from : (x y : AdValue) → x.account ≢ y.account → is_other x y ≡ true
is_other-from x y h = not_from_false _ (ne_eqb _ _ (λ e. h (sym e)))

-- the members
pub firsts-Has : (xs : List AdValue) (x : AdValue) → Has (firsts xs) x → Has xs x
unfolding firsts
firsts-Has [] x h = h
firsts-Has (z ∷ zs) x (inl is) = inl is
firsts-Has (z ∷ zs) x (inr h) = inr (firsts-Has zs x (Has-filter (is_other z) (firsts zs) x h).0)

AreApart-filter : (p : AdValue → Bool) (xs : List AdValue) → AreApart xs → AreApart (filter p xs)
AreApart-filter p [] h = tt
AreApart-filter p (x ∷ xs) h =
    elim (cases_Bool (p x)) [
      | inl passes ↦ rw passes (λ y k. h.0 y (Has-filter p xs y k).0, AreApart-filter p xs h.1)
      | inr fails ↦ rw fails (AreApart-filter p xs h.1)
    ]

pub firsts-apart : (xs : List AdValue) → AreApart (firsts xs)
unfolding firsts
firsts-apart [] = tt
firsts-apart (x ∷ xs) =
    (λ y k. is_other-true x y (Has-filter (is_other x) (firsts xs) y k).1, AreApart-filter (is_other x) (firsts xs) (firsts-apart xs))

-- no later one is better than an earlier one
abbrev pub IsInOrder : List AdValue → Type 0
IsInOrder [] = Unit {0}
IsInOrder (x ∷ xs) = ((y : AdValue) → Has xs y → better y x ≡ false) × IsInOrder xs

IsRanked-filter : (p : AdValue → Bool) (xs : List AdValue) → IsRanked xs → IsRanked (filter p xs)
IsRanked-filter p [] h = tt
IsRanked-filter p (x ∷ xs) h =
    elim (cases_Bool (p x)) [
      | inl passes ↦ rw passes (λ y k. h.0 y (Has-filter p xs y k).0, IsRanked-filter p xs h.1)
      | inr fails ↦ rw fails (IsRanked-filter p xs h.1)
    ]

pub firsts-ranked : (xs : List AdValue) → IsInOrder xs → IsRanked (firsts xs)
unfolding firsts
firsts-ranked [] h = tt
firsts-ranked (x ∷ xs) h = (
  λ y k.
      let m = Has-filter (is_other x) (firsts xs) y k in
      let other = is_other-true x y m.1 in
      right_one y x (better_one y x (λ e. other (sym e))) (h.0 y (firsts-Has xs y m.0)),
  IsRanked-filter (is_other x) (firsts xs) (firsts-ranked xs h.1),
)

-- of a list in order they are those than which none of their account is better
firsts_best : (xs : List AdValue) (x : AdValue) → IsInOrder xs → Has (firsts xs) x → (y : AdValue) → Has xs y → y.account ≡ x.account → better y x ≡ false
unfolding firsts
firsts_best [] x h k y m same = absurd (elim m [ ])
firsts_best (z ∷ zs) x h (inl is) y (inl at) same = ap (λ w. better w x) (sym at ∙ is) ∙ better-irreflexive x
firsts_best (z ∷ zs) x h (inl is) y (inr m) same = ap (better y) (sym is) ∙ h.0 y m
firsts_best (z ∷ zs) x h (inr k) y (inl at) same =
    absurd (is_other-true z x (Has-filter (is_other z) (firsts zs) x k).1 (ap (λ w. w.account) at ∙ same))
firsts_best (z ∷ zs) x h (inr k) y (inr m) same = firsts_best zs x h.1 (Has-filter (is_other z) (firsts zs) x k).0 y m same

best_first : (xs : List AdValue) (x : AdValue) → IsInOrder xs → ((y : AdValue) → Has xs y → IsInRange y) → Has xs x → ((y : AdValue) → Has xs y → y.account ≡ x.account → better y x ≡ false) → Has (firsts xs) x
unfolding firsts
best_first [] x h in_range k best = k
best_first (z ∷ zs) x h in_range (inl is) best = inl is
best_first (z ∷ zs) x h in_range (inr k) best =
    elim (cases_Bool (is_of z x)) [
      | inl same ↦ inl (same_if_neither z x (in_range z (inl refl)) (in_range x (inr k)) (best z (inl refl) (sym (eqb-true _ _ same))) (h.0 x k))
      | inr other ↦ inr (Has-filtered (is_other z) (firsts zs) x (best_first zs x h.1 (λ y m. in_range y (inr m)) k (λ y m. best y (inr m))) (not_from_false _ other))
    ]

-- two lists of different accounts with the same members have the same counts
pub filter_all : (p : AdValue → Bool) (xs : List AdValue) → ((x : AdValue) → Has xs x → p x ≡ true) → filter p xs ≡ xs
filter_all p [] h = refl
filter_all p (x ∷ xs) h = cond-true _ (x ∷ filter p xs) (filter p xs) (h x (inl refl)) ∙ ap (λ ys. x ∷ ys) (filter_all p xs (λ y k. h y (inr k)))

taken_out : (ys : List AdValue) (x : AdValue) → AreApart ys → Has ys x → SameCounts ys (x ∷ filter (is_other x) ys)
taken_out [] x h k = absurd (elim k [ ])
taken_out (y ∷ ys) x h (inl is) =
    let gone : is_other x y ≡ false = not_from_true _ (eq-eqb _ _ (ap (λ w. w.account) is)) in
    let left : filter (is_other x) (y ∷ ys) ≡ ys
    = cond-false _ (y ∷ filter (is_other x) ys) (filter (is_other x) ys) gone ∙ filter_all (is_other x) ys (λ z m. is_other-from x z (λ e. h.0 z m (ap (λ w. w.account) is ∙ e))) in
    subst (λ zs. SameCounts (y ∷ ys) (x ∷ zs)) (sym left) (subst (λ w. SameCounts (y ∷ ys) (w ∷ ys)) is (SameCounts-refl (y ∷ ys)))
taken_out (y ∷ ys) x h (inr k) =
    let stays : is_other x y ≡ true = is_other-from x y (λ e. h.0 x k (sym e)) in
    let left : filter (is_other x) (y ∷ ys) ≡ y ∷ filter (is_other x) ys = cond-true _ (y ∷ filter (is_other x) ys) (filter (is_other x) ys) stays in
    subst (λ zs. SameCounts (y ∷ ys) (x ∷ zs)) (sym left)
    (SameCounts-trans _ _ _ (SameCounts-cons y _ _ (taken_out ys x h.1 k)) (SameCounts-swap y x (filter (is_other x) ys)))

same_members : (xs ys : List AdValue) → AreApart xs → AreApart ys → ((x : AdValue) → Has xs x → Has ys x) → ((x : AdValue) → Has ys x → Has xs x) → SameCounts xs ys
same_members [] [] hx hy there back = SameCounts-refl []
same_members [] (y ∷ ys) hx hy there back = absurd (elim (back y (inl refl)) [ ])
same_members (x ∷ xs) ys hx hy there back =
    let rest = same_members xs (filter (is_other x) ys) hx.1 (AreApart-filter (is_other x) ys hy)
    (λ z k. Has-filtered (is_other x) ys z (there z (inr k)) (is_other-from x z (hx.0 z k)))
    (λ z k.
    let m = Has-filter (is_other x) ys z k in
    elim (back z m.0) [ inl is ↦ absurd (is_other-true x z m.1 (ap (λ w. w.account) is)) | inr n ↦ n ]) in
    SameCounts-trans _ _ _ (SameCounts-cons x _ _ rest) (SameCounts-sym _ _ (taken_out ys x hy (there x (inl refl))))

-- the first of each account in a list in order with the same members are the entrants, best first
pub firsts-ranking : (ads sorted : List AdValue) → ((x : AdValue) → Has ads x → Has sorted x) → ((x : AdValue) → Has sorted x → Has ads x) → IsInOrder sorted → ((x : AdValue) → Has sorted x → IsInRange x) → IsRanking (entrants ads) (firsts sorted)
firsts-ranking ads sorted there back order ranges =
    record {
      same = same_members (entrants ads) (firsts sorted) (entrants-apart ads (λ x k. ranges x (there x k))) (firsts-apart sorted)
          (λ x k.
          let e = entrant_of ads x k in
          best_first sorted x order ranges (there x e.0) (λ y m same. best_beats ads x y e.1 (back y m) same))
          (λ x k. entrant_from ads x (back x (firsts-Has sorted x k)) (best_from ads x (λ y n same. firsts_best sorted x order k y (there y n) same)));
      in_order = firsts-ranked sorted order;
    }
