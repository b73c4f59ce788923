-- The views of the seats after one of them changed.
use Rattle.std.proofs.Common.{◌≡◌, ◌≢◌, ℕ, zero, suc, ◌+◌, ◌<◌, List, [], ◌∷◌, ◌⊎◌, length, set, get_or, refl, sym, ap, ◌∙◌, inl, inr, ⊎_elim, Bool, cond, true, arith}
use mathlib.Core.Bool.{false≢true}
use Rattle.std.specs.Prelude.{count_by}
use Rattle.std.proofs.lemmas.List.Sums.{sum_by-set}
use mathlib.Core.Option.{some, some-injective, some-ne-none}
use lib.ListN.{get_elem?}
use Rattle.atomic_table.proofs.Lists.{at_set}
use Rattle.turn_lock.specs.declared.view.Known.{Known}
use Rattle.turn_lock.specs.declared.view.View.{View}
use Rattle.turn_lock.specs.declared.view.View.TheVariants.{Live, Spent}
use Rattle.turn_lock.specs.Views.{Knows, IsSpent, is_live, known_of}

module _ {I N : Type 0} where
  pub live_same : (k l : Known I N) → Live k ≡ Live l → k ≡ l
  live_same k l e = cc

  pub live_not_spent : (k : Known I N) → (let spent : View I N = Spent in spent ≡ Live k) → ⊥
  live_not_spent k e = cc

  -- what a seat knows is one thing
  pub knows_one : (views : List (View I N)) (seat : ℕ) (k l : Known I N) → Knows views seat k → Knows views seat l → k ≡ l
  knows_one views seat k l a b = live_same k l (some-injective _ _ (sym a ∙ b))

  pub knows_not_spent : (views : List (View I N)) (seat : ℕ) (k : Known I N) → Knows views seat k → IsSpent views seat → ⊥
  knows_not_spent views seat k a b = live_not_spent k (some-injective _ _ (sym b ∙ a))

  -- after one seat's change, a live seat is that one or another
  pub knows_set : (views : List (View I N)) (me : ℕ) (w : Known I N) (seat : ℕ) (k : Known I N) → Knows (set views me (Live w)) seat k → ((seat ≡ me) × (w ≡ k)) ⊎ ((seat ≢ me) × Knows views seat k)
  knows_set views me w seat k e = ⊎_elim (λ (t : (seat ≡ me) × (Live w ≡ Live k)). inl (t.0, live_same w k t.1)) (λ (t : (seat ≢ me) × Knows views seat k). inr t) (at_set views me seat (Live w) (Live k) e)

  -- after one seat was spent, a live seat is another
  pub knows_spent : (views : List (View I N)) (other seat : ℕ) (k : Known I N) → Knows (set views other Spent) seat k → (seat ≢ other) × Knows views seat k
  knows_spent views other seat k e = ⊎_elim
      (λ (t : (seat ≡ other) × (let spent : View I N = Spent in spent ≡ Live k)). absurd (live_not_spent k t.1))
      (λ (t : (seat ≢ other) × Knows views seat k). t)
      (at_set views other seat Spent (Live k) e)

  pub seat_below : (views : List (View I N)) (seat : ℕ) (v : View I N) → get_elem? views seat ≡ some v → seat < length views
  seat_below [] seat v e = absurd (some-ne-none v (sym e))
  seat_below (x ∷ xs) zero v e = omega arith
  seat_below (x ∷ xs) (suc seat) v e = let h = seat_below xs seat v e in omega arith

  get_or_is : (views : List (View I N)) (seat : ℕ) (v d : View I N) → get_elem? views seat ≡ some v → get_or views seat d ≡ v
  get_or_is [] seat v d e = absurd (some-ne-none v (sym e))
  get_or_is (x ∷ xs) zero v d e = some-injective x v e
  get_or_is (x ∷ xs) (suc seat) v d e = get_or_is xs seat v d e

  pub count_by-set : (p : View I N → Bool) (views : List (View I N)) (me : ℕ) (v w : View I N) → get_elem? views me ≡ some v → count_by p (set views me w) + cond (p v) 1 0 ≡ count_by p views + cond (p w) 1 0
  count_by-set p views me v w e =
      let here : get_or views me v ≡ v = get_or_is views me v v e in
      let sums = sum_by-set (λ (x : View I N). cond (p x) 1 0) views me w v (seat_below views me v e) in
      ap (λ (x : View I N). count_by p (set views me w) + cond (p x) 1 0) (sym here) ∙ sums

  -- the view of a live seat is what it knows
  pub view_is : (v : View I N) (live : is_live v ≡ true) → v ≡ Live (known_of v live)
  view_is (Live k) live = refl
  view_is Spent live = absurd (false≢true live)

  pub known_is : (v : View I N) (live : is_live v ≡ true) (k : Known I N) → v ≡ Live k → known_of v live ≡ k
  known_is v live k e = live_same _ k (sym (view_is v live) ∙ e)
