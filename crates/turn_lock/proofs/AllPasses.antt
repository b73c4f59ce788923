-- When passes are all those of a lock.
use Rattle.std.proofs.Common.{◌≡◌, ℕ, zero, suc, ◌+◌, ◌-◌, ◌<◌, List, [], ◌∷◌, length, get_or, refl, sym, ap, ◌∙◌, subst, arith}
use Rattle.std.specs.Prelude.{slice_get, Some, None}
use Rattle.std.specs.List.{AllZip}
use Rattle.std.proofs.lemmas.Option.{slice_get-get_or, get_or_from_slice_get}
use Rattle.std.proofs.lemmas.List.Elements.{length_all_zip}
use Rattle.turn_lock.specs.LockValues.{LockValue, PassValue}
use Rattle.turn_lock.specs.Passes.{AreNew, AreAll, IsSameCaller}

slice_get-below : {X : Type 0} (xs : List X) (k : ℕ) → k < length xs → (x : X) × (slice_get xs k ≡ Some x)
slice_get-below [] k l = absurd (omega arith)
slice_get-below (x ∷ xs) zero l = (x, refl)
slice_get-below (x ∷ xs) (suc k) l = slice_get-below xs k (omega arith)

slice_get-zip : {X : Type 0} (R : X → X → Type 0) (xs ys : List X) (k : ℕ) (y : X) → AllZip R xs ys → slice_get ys k ≡ Some y → (x : X) × (slice_get xs k ≡ Some x) × R x y
slice_get-zip R [] [] k y h e = absurd (let clash : None ≡ Some y = e in cc)
slice_get-zip R [] (b ∷ bs) k y h e = absurd h
slice_get-zip R (a ∷ xs) [] k y h e = absurd h
slice_get-zip R (a ∷ xs) (b ∷ bs) zero y h e = (a, refl, let same : b ≡ y = cc in subst (R a) same h.0)
slice_get-zip R (a ∷ xs) (b ∷ bs) (suc k) y h e = slice_get-zip R xs bs k y h.1 e

module _ {I N : Type 0} where
  -- where they are as many as the callers, and stand in the order of their numbers
  pub all_in_order : (lock : LockValue N) (passes : List (PassValue I N)) → length passes ≡ lock.callers
      → ((k : ℕ) (p : PassValue I N) → slice_get passes k ≡ Some p → (p.lock ≡ lock.id) × (p.number ≡ k + 1)) → AreAll lock passes
  all_in_order lock passes count each = record {
    of_lock = λ k d l. (each k (get_or passes k d) (slice_get-get_or passes k d l)).0;
    each = λ n low high.
        let k : ℕ = n - 1 in
        let below : k < length passes = omega arith in
        let there = slice_get-below passes k below in
        (k, there.0, below, get_or_from_slice_get passes k there.0 there.0 there.1, (each k there.0 there.1).1 ∙ omega arith);
  }

  -- where they are later passes of those that the lock was made with
  pub all_of_new : (lock : LockValue N) (made passes : List (PassValue I N)) → AreNew lock made → AllZip IsSameCaller made passes → AreAll lock passes
  all_of_new lock made passes new later = all_in_order lock passes (sym (length_all_zip IsSameCaller made passes later) ∙ new.count)
      (λ k p at. let h = slice_get-zip IsSameCaller made passes k p later at in let was = new.each k h.0 h.1 in
      (h.2.lock ∙ ap (λ (x : PassValue I N). x.lock) was, h.2.number ∙ ap (λ (x : PassValue I N). x.number) was))
