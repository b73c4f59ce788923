-- All passes of one lock.
use Rattle.std.specs.Prelude.{◌≡◌, ℕ, ◌+◌, ◌<◌, ◌≤◌, List, [], ◌∷◌, ◌++◌, map, length, slice_get, All, Any, Some}
use Rattle.turn_lock.specs.declared.view.Place.TheVariants.{Away}
use Rattle.turn_lock.specs.declared.view.Joined.{Joined}
use Rattle.turn_lock.specs.declared.view.Known.{Known}
use Rattle.turn_lock.specs.Steps.{Seated, empty_handed}
use Rattle.turn_lock.specs.LockValues.{LockId, LockValue, PassValue}

-- a pass that has seen nothing
abbrev pub fresh : {I N : Type 0} → LockId N → ℕ → PassValue I N
fresh lock number = record { lock = lock; number = number; seen = [] }

-- the passes of a lock as it was made, numbered from 1, which have seen nothing
pub record AreNew {I N : Type 0} (lock : LockValue N) (passes : List (PassValue I N)) : Type 0 where
  pub count : length passes ≡ lock.callers
  pub each : (k : ℕ) (p : PassValue I N) → slice_get passes k ≡ Some p → p ≡ fresh lock.id (k + 1)

-- a later pass of the same caller
pub record IsSameCaller {I N : Type 0} (before now : PassValue I N) : Type 0 where
  pub lock : now.lock ≡ before.lock
  pub number : now.number ≡ before.number

-- passes of this lock, and for each number that of its caller
pub record AreAll {I N : Type 0} (lock : LockValue N) (passes : List (PassValue I N)) : Type 0 where
  pub of_lock : All (λ p. p.lock ≡ lock.id) passes
  pub each : (n : ℕ) → 0 < n → n ≤ lock.callers → Any (λ p. p.number ≡ n) passes

-- what is kept of a pass that was joined into another
abbrev pub joined_of : {I N : Type 0} → PassValue I N → Joined I
joined_of p = record { number = p.number; seen = p.seen }

-- the seat of the last of these passes, which the others were joined into
pub record Unites {V I N : Type 0} (passes : List (PassValue I N)) (me : Seated V I N) : Type 0 where
  pub known : Known I N
  pub is : me ≡ empty_handed known
  pub away : known.place ≡ Away
  pub all : map joined_of passes ≡ known.joined ++ record { number = known.number; seen = known.seen } ∷ []
