-- What the views of the seats show.
use Rattle.std.specs.Prelude.{◌≡◌, ℕ, Bool, true, false, List, []}
use mathlib.Core.Bool.{false≢true}
use mathlib.Core.Option.{some}
use lib.ListN.{get_elem?}
use Rattle.turn_lock.specs.declared.view.Place.TheVariants.{Away}
use Rattle.turn_lock.specs.declared.view.Known.{Known}
use Rattle.turn_lock.specs.declared.view.View.{View}
use Rattle.turn_lock.specs.declared.view.View.TheVariants.{Live, Spent}

-- what the seat of a new pass knows: its number and the lock's name, and that it is the newest
abbrev pub newcomer : {I N : Type 0} → ℕ → N → Known I N
newcomer number name = record { number = number; place = Away; seen = []; name = name; newest = true; joined = [] }

-- it was not joined into another
abbrev pub is_live : {I N : Type 0} → View I N → Bool
is_live (Live k) = true
is_live Spent = false

-- what a live seat knows
abbrev pub known_of : {I N : Type 0} (v : View I N) → is_live v ≡ true → Known I N
known_of (Live k) live = k
known_of Spent live = absurd (false≢true live)

-- the seat with this number among the views is live, and knows this
abbrev pub Knows : {I N : Type 0} → List (View I N) → ℕ → Known I N → Type 0
Knows views seat k = get_elem? views seat ≡ some (Live k)

-- the seat with this number among the views is spent
abbrev pub IsSpent : {I N : Type 0} → List (View I N) → ℕ → Type 0
IsSpent {I} {N} views seat = let spent : View I N = Spent in get_elem? views seat ≡ some spent
