-- The seat behind a pass and behind a turn.
use Rattle.std.specs.Prelude.{◌≡◌, ℕ, List, [], ◌∷◌, Option, None}
use Rattle.atomic_table.specs.Seated.{TableId}
use Rattle.turn_lock.specs.declared.view.Place.TheVariants.{Away, Inside}
use Rattle.turn_lock.specs.declared.view.Known.{Known}
use Rattle.turn_lock.specs.Steps.{Seated, empty_handed, holding}
use Rattle.turn_lock.specs.LockValues.{PassValue, pass_value, TurnValue, turn_value}

-- the seat of a pass with this number has no ticket, took in no other and has no slot out
pub record IsAway {V I N : Type 0} (number : ℕ) (k : Known I N) (slots : List (ℕ × Option V)) : Type 0 where
  pub numbered : k.number ≡ number
  pub place : k.place ≡ Away
  pub alone : k.joined ≡ []
  pub none : slots ≡ []

-- the same of a seat with its view
pub record Rests {V I N : Type 0} (number : ℕ) (me : Seated V I N) : Type 0 where
  pub known : Known I N
  pub numbered : known.number ≡ number
  pub is : me ≡ empty_handed known
  pub away : known.place ≡ Away
  pub alone : known.joined ≡ []

-- the pass is that of a seat of this table
pub record IsPassOf {V I N : Type 0} (p : PassValue I N) (table : TableId) (me : Seated V I N) : Type 0 where
  pub seat : Rests p.number me
  pub shows : p ≡ pass_value table seat.known

-- the seat of a turn with this number is in, took in no other and has the slot out, which is empty
pub record IsInside {V I N : Type 0} (number : ℕ) (k : Known I N) (slots : List (ℕ × Option V)) : Type 0 where
  pub numbered : k.number ≡ number
  pub ticket : ℕ
  pub place : k.place ≡ Inside ticket
  pub alone : k.joined ≡ []
  pub held : slots ≡ (0, None) ∷ []

-- the same of a seat with its view
pub record Holds {V I N : Type 0} (number : ℕ) (me : Seated V I N) : Type 0 where
  pub known : Known I N
  pub numbered : known.number ≡ number
  pub ticket : ℕ
  pub is : me ≡ holding known None
  pub inside : known.place ≡ Inside ticket
  pub alone : known.joined ≡ []

-- the turn is that of a seat of this table, with this value
pub record IsTurnOf {V I N : Type 0} (t : TurnValue V I N) (table : TableId) (me : Seated V I N) (value : V) : Type 0 where
  pub seat : Holds t.number me
  pub shows : t ≡ turn_value table seat.known value
