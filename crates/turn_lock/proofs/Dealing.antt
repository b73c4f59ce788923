-- The passes as they are made.
use Rattle.std.proofs.Common.{◌≡◌, ℕ, zero, suc, ◌+◌, List, [], ◌∷◌, ◌++◌, ◌⊎◌, length, false, refl, sym, ap, ◌∙◌, inl, inr, ⊎_elim, arith, length-append}
use Rattle.std.specs.Prelude.{slice_get, Some, None}
use Rattle.atomic_table.specs.Seated.{TableId}
use Rattle.turn_lock.specs.declared.view.Known.{Known}
use Rattle.turn_lock.specs.Views.{newcomer}
use Rattle.turn_lock.specs.Steps.{Seated, empty_handed, older, newer}
use Rattle.turn_lock.specs.LockValues.{LockId, PassValue, pass_value}
use Rattle.turn_lock.specs.Seats.{Rests, IsPassOf}
use Rattle.turn_lock.specs.Passes.{fresh, AreNew}
use Rattle.turn_lock.proofs.ViewLemmas.{live_same}

-- the passes below this number are there
pub record Dealt {I N : Type 0} (lock : LockId N) (number : ℕ) (passes : List (PassValue I N)) : Type 0 where
  pub count : length passes + 1 ≡ number
  pub each : (k : ℕ) (p : PassValue I N) → slice_get passes k ≡ Some p → p ≡ fresh lock (k + 1)

slice_get-end : {X : Type 0} (xs : List X) (a b : X) (k : ℕ) → slice_get (xs ++ a ∷ []) k ≡ Some b → (slice_get xs k ≡ Some b) ⊎ ((k ≡ length xs) × (a ≡ b))
slice_get-end [] a b zero e = inr (refl, cc)
slice_get-end [] a b (suc k) e = absurd (let clash : None ≡ Some b = e in cc)
slice_get-end (x ∷ xs) a b zero e = inl e
slice_get-end (x ∷ xs) a b (suc k) e = ⊎_elim (λ h. inl h) (λ h. inr (ap suc h.0, h.1)) (slice_get-end xs a b k e)

module _ {I N : Type 0} (lock : LockId N) where
  pub dealt_none : Dealt lock 1 (let none : List (PassValue I N) = [] in none)
  dealt_none = record { count = refl; each = λ k p at. absurd (let clash : None ≡ Some p = at in cc) }

  pub dealt_more : (number : ℕ) (passes : List (PassValue I N)) (p : PassValue I N) → Dealt lock number passes → p ≡ fresh lock number → Dealt lock (number + 1) (passes ++ p ∷ [])
  dealt_more number passes p d is = record {
    count = let c = d.count in let l = length-append passes (p ∷ []) in omega arith;
    each = λ k q at. ⊎_elim
        (λ (h : slice_get passes k ≡ Some q). d.each k q h)
        (λ (h : (k ≡ length passes) × (p ≡ q)). let n : number ≡ k + 1 = let c = d.count in let e = h.0 in omega arith in sym h.1 ∙ (is ∙ ap (fresh lock) n))
        (slice_get-end passes p q k at);
  }

  pub dealt_all : (number callers : ℕ) (passes : List (PassValue I N)) (p : PassValue I N) → Dealt lock number passes → p ≡ fresh lock number → number ≡ callers → AreNew record { id = lock; callers = callers } (passes ++ p ∷ [])
  dealt_all number callers passes p d is last = let e = dealt_more number passes p d is in record { count = let c = e.count in omega arith; each = e.each }

module _ {V I N : Type 0} (number : ℕ) (name : N) (me : Seated V I N) (is : me ≡ empty_handed (newcomer number name)) where
  -- the seat that stays
  stays : (left : Seated V I N) → left ≡ (older me.0, me.1) → left ≡ empty_handed record (let k : Known I N = newcomer number name in k) { newest = false }
  stays left e = e ∙ ap (λ (m : Seated V I N). (older m.0, m.1)) is

  pub stays_away : (left : Seated V I N) → left ≡ (older me.0, me.1) → Rests number left
  stays_away left e = record { known = record (let k : Known I N = newcomer number name in k) { newest = false }; numbered = refl; is = stays left e; away = refl; alone = refl }

  -- the seat that is new
  pub comes : (next : Seated V I N) → next ≡ (newer me.0, []) → next ≡ empty_handed (newcomer (number + 1) name)
  comes next e = e ∙ ap (λ (m : Seated V I N). (let out : Seated V I N = (newer m.0, []) in out)) is

  pub first_pass : (left : Seated V I N) (p : PassValue I N) (table table' : TableId) → left ≡ (older me.0, me.1) → IsPassOf p table left → table ≡ table' → p ≡ fresh record { table = table'; name = name } number
  first_pass left p table table' e pass same =
      let known : pass.seat.known ≡ record (let k : Known I N = newcomer number name in k) { newest = false } = live_same _ _ (ap (λ (m : Seated V I N). m.0) (sym pass.seat.is ∙ stays left e)) in
      pass.shows ∙ λ i. pass_value (same i) (known i)

  pub last_away : Rests number me
  last_away = record { known = newcomer number name; numbered = refl; is = is; away = refl; alone = refl }

  pub last_pass : (p : PassValue I N) (table table' : TableId) → IsPassOf p table me → table ≡ table' → p ≡ fresh record { table = table'; name = name } number
  last_pass p table table' pass same =
      let known : pass.seat.known ≡ newcomer number name = live_same _ _ (ap (λ (m : Seated V I N). m.0) (sym pass.seat.is ∙ is)) in
      pass.shows ∙ λ i. pass_value (same i) (known i)
