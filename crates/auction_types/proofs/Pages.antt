-- The page is the first places, and the next below is the next.
use Rattle.std.proofs.Common.{◌≡◌, ℕ, zero, suc, ◌+◌, ◌<◌, ◌≤◌, min, true, inl, inr, List, [], ◌∷◌, Option, None, Some, take, refl, sym, ap, subst, ◌∙◌, arith, length-take}
use Rattle.std.specs.List.{slice_get, Contains}
use Rattle.std.specs.Option.{IfSome}
use Rattle.std.proofs.lemmas.Option.{same_Some}
use Rattle.std.proofs.lemmas.Bool.{cases_lt}
use Rattle.auction_types.specs.AdValue.{AdValue}
use Rattle.auction_types.specs.Order.{better}
use Rattle.auction_types.specs.Page.{AreOfDifferentAccounts, page, next_below}
use Rattle.auction_types.specs.Laws.{AreFirstPlaces, IsNextBelow}
use Rattle.auction_types.proofs.Members.{Has, Has-from_Contains, Contains-from_Has, SameCounts-Has, SameCounts-length, SameCounts-sym}
use Rattle.auction_types.proofs.Ranking.{IsRanked, IsRanking, page-ranking, place-at, next_below-ranking}
use Rattle.auction_types.proofs.Accounts.{AreApart-from, ranking_of, IsRanking-of, slice_get-Has}

pub Has-slice_get : (xs : List AdValue) (k : ℕ) (x : AdValue) → slice_get xs k ≡ Some x → Has xs x
Has-slice_get [] k x h = absurd cc
Has-slice_get (y ∷ ys) zero x h = inl (same_Some y x h)
Has-slice_get (y ∷ ys) (suc k) x h = inr (Has-slice_get ys k x h)

take-slice_get : (n : ℕ) (xs : List AdValue) (k : ℕ) (x : AdValue) → slice_get (take n xs) k ≡ Some x → (k < n) × (slice_get xs k ≡ Some x)
take-slice_get zero xs k x h = absurd cc
take-slice_get (suc n) [] k x h = absurd cc
take-slice_get (suc n) (y ∷ ys) zero x h = (omega arith, h)
take-slice_get (suc n) (y ∷ ys) (suc k) x h = let r = take-slice_get n ys k x h in (omega (arith, r.0), r.1)

slice_get-take : (n : ℕ) (xs : List AdValue) (k : ℕ) (x : AdValue) → k < n → slice_get xs k ≡ Some x → slice_get (take n xs) k ≡ Some x
slice_get-take zero xs k x low h = absurd (omega (arith, low))
slice_get-take (suc n) [] k x low h = absurd cc
slice_get-take (suc n) (y ∷ ys) zero x low h = h
slice_get-take (suc n) (y ∷ ys) (suc k) x low h = slice_get-take n ys k x (omega (arith, low)) h

-- of two of a ranking, the earlier one is better
pub ranked_pair : (xs : List AdValue) (i j : ℕ) (x y : AdValue) → IsRanked xs → i < j → slice_get xs i ≡ Some x → slice_get xs j ≡ Some y → better x y ≡ true
ranked_pair [] i j x y h low hx hy = absurd cc
ranked_pair (z ∷ zs) zero zero x y h low hx hy = absurd (omega (arith, low))
ranked_pair (z ∷ zs) zero (suc j) x y h low hx hy = subst (λ w. better w y ≡ true) (same_Some z x hx) (h.0 y (Has-slice_get zs j y hy))
ranked_pair (z ∷ zs) (suc i) zero x y h low hx hy = absurd (omega (arith, low))
ranked_pair (z ∷ zs) (suc i) (suc j) x y h low hx hy = ranked_pair zs i j x y h.1 (omega (arith, low)) hx hy

-- the front of a ranking
front-first_places : (entered ranked : List AdValue) (n : ℕ) → IsRanking entered ranked → AreFirstPlaces entered n (take n ranked)
front-first_places entered ranked n h =
    record {
      all_there = length-take n ranked ∙ ap (min n) (sym (SameCounts-length entered ranked h.same));
      among_entrants = λ a k.
          let at = slice_get-Has (take n ranked) a (Has-from_Contains (take n ranked) a k) in
          Contains-from_Has entered a (SameCounts-Has ranked entered a (SameCounts-sym _ _ h.same) (Has-slice_get ranked at.0 a (take-slice_get n ranked at.0 a at.2).1));
      places = λ k a at. place-at entered ranked k a h (take-slice_get n ranked k a at).1;
      above_the_rest = λ a b ha hb outside.
          let at = slice_get-Has (take n ranked) a (Has-from_Contains (take n ranked) a ha) in
          let first = take-slice_get n ranked at.0 a at.2 in
          let other = slice_get-Has ranked b (SameCounts-Has entered ranked b h.same (Has-from_Contains entered b hb)) in
          let late : n ≤ other.0 = elim (cases_lt other.0 n) [
            | inl early ↦ absurd (outside (Contains-from_Has (take n ranked) b (Has-slice_get (take n ranked) other.0 b (slice_get-take n ranked other.0 b early other.2))))
            | inr late ↦ late
          ] in
          ranked_pair ranked at.0 other.0 a b h.in_order (omega (arith, first.0, late)) first.1 other.2;
    }

pub page-first_places : (entered : List AdValue) (n : ℕ) → AreOfDifferentAccounts entered → AreFirstPlaces entered n (page entered n)
page-first_places entered n apart =
    let ranking = IsRanking-of entered (AreApart-from entered apart) in
    subst (AreFirstPlaces entered n) (sym (page-ranking entered (ranking_of entered) n ranking)) (front-first_places entered (ranking_of entered) n ranking)

pub next_below-is : (entered : List AdValue) (a b : AdValue) → AreOfDifferentAccounts entered → Contains entered a → next_below entered a ≡ Some b → IsNextBelow entered a b
next_below-is entered a b apart ha is =
    let ranking = IsRanking-of entered (AreApart-from entered apart) in
    let at = slice_get-Has (ranking_of entered) a (SameCounts-Has entered (ranking_of entered) a ranking.same (Has-from_Contains entered a ha)) in
    let next : slice_get (ranking_of entered) (at.0 + 1) ≡ Some b = sym (next_below-ranking entered (ranking_of entered) at.0 a ranking at.2) ∙ is in
    record {
      entrant = Contains-from_Has entered b (SameCounts-Has (ranking_of entered) entered b (SameCounts-sym _ _ ranking.same) (Has-slice_get (ranking_of entered) (at.0 + 1) b next));
      below = ranked_pair (ranking_of entered) at.0 (at.0 + 1) a b ranking.in_order (omega arith) at.2 next;
      place = place-at entered (ranking_of entered) (at.0 + 1) b ranking next ∙ ap (λ n. n + 1) (sym (place-at entered (ranking_of entered) at.0 a ranking at.2));
    }

if_some : (o : Option AdValue) (P : AdValue → Type 0) → ((b : AdValue) → o ≡ Some b → P b) → IfSome o P
if_some None P h = tt
if_some (Some b) P h = h b refl

pub next_below-law : (entered : List AdValue) (a : AdValue) → AreOfDifferentAccounts entered → Contains entered a → IfSome (next_below entered a) (IsNextBelow entered a)
next_below-law entered a apart ha = if_some (next_below entered a) (IsNextBelow entered a) (λ b is. next_below-is entered a b apart ha is)
