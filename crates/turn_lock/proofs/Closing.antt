-- What is known of the value once the lock is closed with all its passes.
use Rattle.std.proofs.Common.{◌≡◌, ℕ, ◌+◌, ◌<◌, ◌≤◌, List, [], ◌∷◌, ◌++◌, ◌⊎◌, length, map, refl, sym, ap, ◌∙◌, inl, inr, ⊎_elim, subst, arith}
use Rattle.std.specs.Prelude.{Option, Some, All, Any}
use Rattle.std.proofs.lemmas.List.Elements.{All-weaker, All-append, All-nil, All-cons, All-head, All-tail, All-same}
use mathlib.Core.Option.{Option as Maybe, some, some-injective}
use lib.ListN.{get_elem?}
use Rattle.atomic_table.specs.Table.{State, Final, Seen}
use Rattle.turn_lock.specs.declared.view.Place.TheVariants.{Away, Inside}
use Rattle.turn_lock.specs.declared.view.Joined.{Joined}
use Rattle.turn_lock.specs.declared.view.Known.{Known}
use Rattle.turn_lock.specs.declared.view.View.{View}
use Rattle.turn_lock.specs.declared.view.View.TheVariants.{Live}
use Rattle.turn_lock.specs.Lists.{IsPrefix, items_by}
use Rattle.turn_lock.specs.Views.{Knows, IsSpent}
use Rattle.turn_lock.specs.Rule.{IsHome, IsOut, IsKept, TakesTurns}
use Rattle.turn_lock.specs.Steps.{Seated}
use Rattle.turn_lock.specs.LockValues.{PassValue}
use Rattle.turn_lock.specs.Passes.{joined_of, Unites}
use Rattle.turn_lock.proofs.ViewLemmas.{knows_one, knows_not_spent, seat_below}

All-unmap : {X Y : Type 0} (Q : X → Type 0) (f : Y → X) (ys : List Y) → All Q (map f ys) → All (λ y. Q (f y)) ys
All-unmap Q f [] h = All-nil (λ y. Q (f y))
All-unmap Q f (y ∷ ys) h = All-cons (λ y. Q (f y)) y ys (All-head Q (f y) (map f ys) h) (All-unmap Q f ys (All-tail Q (f y) (map f ys) h))

-- one for which the first fact holds has the second too
both : {X : Type 0} (P Q : X → Type 0) (xs : List X) → Any P xs → All Q xs → (x : X) × P x × Q x
both P Q xs any all = (any.1, any.4, subst Q any.3 (all any.0 any.1 any.2))

module _ {V I N : Type 0} (items : V → List I) (by : I → ℕ) (name : V → N) (called : N) (callers : ℕ) where
  abbrev R : State (Option V) (View I N) → Type 0
  R = TakesTurns items by name called callers

  -- what the last state says of a seat that was joined, or of the one that is left
  record Told (log : List I) (views : List (View I N)) (id : ℕ) (j : Joined I) : Type 0 where
    prefix : IsPrefix j.seen log
    own : items_by by j.number log ≡ items_by by j.number j.seen
    seat : ℕ
    numbered : j.number ≡ seat + 1
    done : (seat ≡ id) ⊎ IsSpent views seat

  told : (s : State (Option V) (View I N)) (r : R s) (id : ℕ) (me : Seated V I N) (passes : List (PassValue I N)) (u : Unites passes me) → Knows s.views id u.known → All (λ p. Told r.log s.views id (joined_of p)) passes
  told s r id me passes u at =
      let T : Joined I → Type 0 = Told r.log s.views id in
      let k = u.known in
      let f = r.fits id k at in
      All-unmap T joined_of passes (All-same T (map joined_of passes) (k.joined ++ record { number = k.number; seen = k.seen } ∷ []) u.all
      (All-append T k.joined (record { number = k.number; seen = k.seen } ∷ [])
      (All-weaker (IsKept items by name called r.log s.views) T (λ j h. record { prefix = h.prefix; own = h.own; seat = h.seat; numbered = h.numbered; done = inr h.spent }) k.joined f.kept)
      (All-cons T record { number = k.number; seen = k.seen } [] record { prefix = f.prefix; own = f.own; seat = id; numbered = f.numbered; done = inl refl } (All-nil T))))

  -- where all callers' passes were joined no other seat is live
  one_left : (s : State (Option V) (View I N)) (r : R s) (id : ℕ) (passes : List (PassValue I N)) → All (λ p. Told r.log s.views id (joined_of p)) passes
      → ((n : ℕ) → 0 < n → n ≤ callers → Any (λ p. p.number ≡ n) passes) → (seat : ℕ) (l : Known I N) → Knows s.views seat l → seat ≡ id
  one_left s r id passes all each seat l at =
      let below = seat_below s.views seat (Live l) at in
      let few = r.few in
      let b = both (λ (p : PassValue I N). p.number ≡ seat + 1) (λ (p : PassValue I N). Told r.log s.views id (joined_of p)) passes (each (seat + 1) (omega arith) (omega arith)) all in
      let same : b.2.seat ≡ seat = let n = b.1 in let m = b.2.numbered in omega arith in
      ⊎_elim (λ (e : b.2.seat ≡ id). sym same ∙ e) (λ (e : IsSpent s.views b.2.seat). absurd (knows_not_spent s.views seat l at (subst (IsSpent s.views) same e))) b.2.done

  -- the value that comes out
  pub record Ends (passes : List (PassValue I N)) (found : Option V) : Type 0 where
    pub value : V
    pub is : found ≡ Some value
    pub named : name value ≡ called
    pub prefix : All (λ p. IsPrefix p.seen (items value)) passes
    pub own : All (λ p. items_by by p.number (items value) ≡ items_by by p.number p.seen) passes
    pub others : All (λ x. Any (λ p. p.number ≡ by x) passes) (items value)

  pub ends : (words : List ℕ) (slots : List (Option V)) (id : ℕ) (me : Seated V I N) (passes : List (PassValue I N)) (found : Option V) → Unites passes me
      → ((n : ℕ) → 0 < n → n ≤ callers → Any (λ p. p.number ≡ n) passes) → Final (Seen R id me.0) words slots → get_elem? slots 0 ≡ some found → Ends passes found
  ends words slots id me passes found u each final taken =
      let s = final.0 in
      let r = final.1.0 in
      let at : Knows s.views id u.known = final.1.1 ∙ ap (λ (m : Seated V I N). some m.0) u.is in
      let all = told s r id me passes u at in
      let home : IsHome items by name called r.log s.homes s.views = ⊎_elim
      (λ (h : IsHome items by name called r.log s.homes s.views). h)
      (λ (h : IsOut items by name called s.homes s.views).
      let here = one_left s r id passes all each h.seat h.known h.there in
      let one : u.known ≡ h.known = knows_one s.views id u.known h.known at (subst (λ (n : ℕ). Knows s.views n h.known) here h.there) in
      let clash : Away ≡ Inside h.ticket = sym u.away ∙ (ap (λ (x : Known I N). x.place) one ∙ h.inside) in absurd cc)
      r.slot in
      let kept : get_elem? slots 0 ≡ some (Some home.value) = final.4 0 (Some home.value) (ap (λ (hs : List (Maybe (Option V))). get_elem? hs 0) home.there) in
      let list : r.log ≡ items home.value = sym home.list in record {
        value = home.value;
        is = some-injective _ _ (sym taken ∙ kept);
        named = home.named;
        prefix = All-weaker (λ p. Told r.log s.views id (joined_of p)) (λ p. IsPrefix p.seen (items home.value)) (λ p h. subst (IsPrefix p.seen) list h.prefix) passes all;
        own = All-weaker (λ p. Told r.log s.views id (joined_of p)) (λ p. items_by by p.number (items home.value) ≡ items_by by p.number p.seen) (λ p h. ap (items_by by p.number) (sym list) ∙ h.own) passes all;
        others = subst (All (λ x. Any (λ p. p.number ≡ by x) passes)) list
            (All-weaker (λ x. (0 < by x) × (by x ≤ length s.views)) (λ x. Any (λ p. p.number ≡ by x) passes) (λ x h. let few = r.few in each (by x) h.0 (omega arith)) r.log r.authors);
      }
