-- Lists of ads of different accounts, and that each has a ranking.
use Rattle.std.proofs.Common.{◌≡◌, ◌≢◌, ℕ, zero, suc, ◌<◌, true, false, ◌==◌, cond, ◌⊎◌, inl, inr, List, [], ◌∷◌, Some, length, get_or, refl, sym, ap, subst, ◌∙◌, arith}
use Rattle.std.specs.List.{slice_get}
use Rattle.std.proofs.lemmas.Bool.{cases_Bool, and_left, ne_eqb, both_ways}
use Rattle.std.proofs.lemmas.List.Elements.{Contains-get_or}
use Rattle.auction_types.specs.AdValue.{AdValue}
use Rattle.auction_types.specs.Order.{better}
use Rattle.auction_types.specs.Page.{AreOfDifferentAccounts}
use Rattle.auction_types.proofs.OrderLemmas.{better-trans, better-total}
use Rattle.auction_types.proofs.Members.{Has, Contains-from_Has, Has-from_Contains, SameCounts, SameCounts-refl, SameCounts-sym, SameCounts-trans, SameCounts-cons, SameCounts-swap, SameCounts-Has}
use Rattle.auction_types.proofs.Ranking.{IsRanked, IsRanking}

-- x's account is that of no ad of the list
abbrev pub IsOfOther : AdValue → List AdValue → Type 0
IsOfOther x ys = (y : AdValue) → Has ys y → x.account ≢ y.account

-- `AreOfDifferentAccounts` by recursion
abbrev pub AreApart : List AdValue → Type 0
AreApart [] = Unit {0}
AreApart (x ∷ xs) = IsOfOther x xs × AreApart xs

pub AreApart-from : (xs : List AdValue) → AreOfDifferentAccounts xs → AreApart xs
AreApart-from [] h = tt
AreApart-from (x ∷ xs) h = (
  λ y k.
      let at = Contains-from_Has xs y k in
      subst (λ z. x.account ≢ z.account) at.2 (h 0 (suc at.0) y (omega arith) (omega (arith, at.1))),
  AreApart-from xs (λ i j d low high. h (suc i) (suc j) d (omega (arith, low)) (omega (arith, high))),
)

pub AreOfDifferentAccounts-from : (xs : List AdValue) → AreApart xs → AreOfDifferentAccounts xs
AreOfDifferentAccounts-from [] h i j d low high = absurd (omega (arith, high))
AreOfDifferentAccounts-from (x ∷ xs) h i zero d low high = absurd (omega (arith, low))
AreOfDifferentAccounts-from (x ∷ xs) h zero (suc j) d low high =
    h.0 (get_or xs j d) (Has-from_Contains xs (get_or xs j d) (Contains-get_or xs j d (omega (arith, high))))
AreOfDifferentAccounts-from (x ∷ xs) h (suc i) (suc j) d low high =
    AreOfDifferentAccounts-from xs h.1 i j d (omega (arith, low)) (omega (arith, high))

-- two members of one account are one ad
pub one_of_account : (xs : List AdValue) (x y : AdValue) → AreApart xs → Has xs x → Has xs y → x.account ≡ y.account → x ≡ y
one_of_account [] x y h hx hy same = absurd (elim hx [ ])
one_of_account (z ∷ zs) x y h (inl isx) (inl isy) same = sym isx ∙ isy
one_of_account (z ∷ zs) x y h (inl isx) (inr ky) same = absurd (h.0 y ky (ap (λ w. w.account) isx ∙ same))
one_of_account (z ∷ zs) x y h (inr kx) (inl isy) same = absurd (h.0 x kx (ap (λ w. w.account) isy ∙ sym same))
one_of_account (z ∷ zs) x y h (inr kx) (inr ky) same = one_of_account zs x y h.1 kx ky same

pub better_one : (x y : AdValue) → x.account ≢ y.account → (better x y ≡ true) ⊎ (better y x ≡ true)
better_one x y other = better-total x y (and_left (x.account == y.account) _ (ne_eqb x.account y.account other))

pub right_one : (x y : AdValue) → (better x y ≡ true) ⊎ (better y x ≡ true) → better x y ≡ false → better y x ≡ true
right_one x y (inl wins) loses = absurd (both_ways (better x y) loses wins)
right_one x y (inr wins) loses = wins

-- x put where it belongs
insert_ad : AdValue → List AdValue → List AdValue
insert_ad x [] = x ∷ []
insert_ad x (y ∷ ys) = cond (better x y) (x ∷ (y ∷ ys)) (y ∷ insert_ad x ys)

insert-same : (x : AdValue) (ys : List AdValue) → SameCounts (x ∷ ys) (insert_ad x ys)
unfolding insert_ad
insert-same x [] = SameCounts-refl (x ∷ [])
insert-same x (y ∷ ys) =
    elim (cases_Bool (better x y)) [
      | inl wins ↦ rw wins (SameCounts-refl (x ∷ (y ∷ ys)))
      | inr loses ↦ rw loses (SameCounts-trans _ _ _ (SameCounts-swap x y ys) (SameCounts-cons y _ _ (insert-same x ys)))
    ]

insert-ranked : (x : AdValue) (ys : List AdValue) → IsOfOther x ys → IsRanked ys → IsRanked (insert_ad x ys)
unfolding insert_ad
insert-ranked x [] other h = (λ y k. absurd (elim k [ ]), tt)
insert-ranked x (y ∷ ys) other h =
    elim (cases_Bool (better x y)) [
      | inl wins ↦ rw wins (λ z k. elim k [ inl is ↦ subst (λ w. better x w ≡ true) is wins | inr m ↦ better-trans x y z wins (h.0 z m) ], h)
      | inr loses ↦ rw loses ((
        λ z k.
            elim (SameCounts-Has (insert_ad x ys) (x ∷ ys) z (SameCounts-sym _ _ (insert-same x ys)) k) [
              | inl is ↦ subst (λ w. better y w ≡ true) is (right_one x y (better_one x y (other y (inl refl))) loses)
              | inr m ↦ h.0 z m
            ],
        insert-ranked x ys (λ z k. other z (inr k)) h.1,
      ))
    ]

-- the ads, best first
pub ranking_of : List AdValue → List AdValue
ranking_of [] = []
ranking_of (x ∷ xs) = insert_ad x (ranking_of xs)

pub IsRanking-of : (xs : List AdValue) → AreApart xs → IsRanking xs (ranking_of xs)
unfolding ranking_of
IsRanking-of [] h = record { same = SameCounts-refl []; in_order = tt }
IsRanking-of (x ∷ xs) h =
    let rest = IsRanking-of xs h.1 in
    record {
      same = SameCounts-trans _ _ _ (SameCounts-cons x _ _ rest.same) (insert-same x (ranking_of xs));
      in_order = insert-ranked x (ranking_of xs) (λ y k. h.0 y (SameCounts-Has (ranking_of xs) xs y (SameCounts-sym _ _ rest.same) k)) rest.in_order;
    }

pub slice_get-Has : (xs : List AdValue) (x : AdValue) → Has xs x → (k : ℕ) × (k < length xs) × (slice_get xs k ≡ Some x)
slice_get-Has [] x h = absurd (elim h [ ])
slice_get-Has (y ∷ ys) x (inl is) = (0, omega arith, ap Some is)
slice_get-Has (y ∷ ys) x (inr h) = let r = slice_get-Has ys x h in (suc r.0, omega (arith, r.1), r.2)
