-- The rule of the lock, which holds between any two of its steps. A seat is what a pass or a turn steps with, and its view is what it knows.
use Rattle.std.specs.Prelude.{◌≡◌, ◌≢◌, ℕ, ◌+◌, ◌^◌, ◌%◌, ◌<◌, ◌≤◌, ◌⊎◌, true, List, [], ◌∷◌, length, All, Option, Some}
use mathlib.Core.Option.{Option as Maybe, none, some}
use Rattle.atomic_table.specs.Table.{State}
use Rattle.turn_lock.specs.declared.view.Place.TheVariants.{Inside}
use Rattle.turn_lock.specs.declared.view.Joined.{Joined}
use Rattle.turn_lock.specs.declared.view.Known.{Known}
use Rattle.turn_lock.specs.declared.view.View.{View}
use Rattle.turn_lock.specs.Lists.{IsPrefix, items_by}
use Rattle.turn_lock.specs.Views.{Knows, IsSpent}
use Rattle.turn_lock.specs.Queue.{IsQueue}

module _ {V I N : Type 0} (items : V → List I) (by : I → ℕ) (name : V → N) (called : N) where
  -- The value is at home, with the lock's list and name, and nobody is in
  pub record IsHome (log : List I) (homes : List (Maybe (Option V))) (views : List (View I N)) : Type 0 where
    pub value : V
    pub there : homes ≡ some (Some value) ∷ []
    pub list : items value ≡ log
    pub named : name value ≡ called
    pub empty : (seat : ℕ) (k : Known I N) (t : ℕ) → Knows views seat k → k.place ≢ Inside t

  -- The value is out, and somebody is in
  pub record IsOut (homes : List (Maybe (Option V))) (views : List (View I N)) : Type 0 where
    pub seat : ℕ
    pub known : Known I N
    pub ticket : ℕ
    pub there : Knows views seat known
    pub inside : known.place ≡ Inside ticket
    pub gone : homes ≡ none ∷ []

  -- What is kept of a seat that was joined into another: it is spent, its list begins the lock's, and by its number the lock's list has just the items of its own
  pub record IsKept (log : List I) (views : List (View I N)) (j : Joined I) : Type 0 where
    pub seat : ℕ
    pub numbered : j.number ≡ seat + 1
    pub spent : IsSpent views seat
    pub prefix : IsPrefix j.seen log
    pub own : items_by by j.number log ≡ items_by by j.number j.seen

  -- What a live seat knows: its number, which no other seat has, the lock's name, and a list that begins the lock's.
  -- By its number the lock's list has just the items of its own. Who is in has the ticket served, and has seen the whole list
  pub record Fits (log : List I) (served : ℕ) (views : List (View I N)) (seat : ℕ) (k : Known I N) : Type 0 where
    pub numbered : k.number ≡ seat + 1
    pub named : k.name ≡ called
    pub prefix : IsPrefix k.seen log
    pub own : items_by by k.number log ≡ items_by by k.number k.seen
    pub turn : (t : ℕ) → k.place ≡ Inside t → (t ≡ served) × (k.seen ≡ log)
    pub last : k.newest ≡ true → length views ≡ seat + 1
    pub kept : All (IsKept log views) k.joined

  -- Callers take turns: there are a list and two counts of tickets, served and drawn, of which the words tell the drawn, the served and the list's length.
  -- Those that hold tickets stand in a queue, the value is at home or out with one of them, each knows what is so, and each item is by a caller's number
  pub record TakesTurns (callers : ℕ) (s : State (Option V) (View I N)) : Type 0 where
    pub log : List I
    pub served : ℕ
    pub drawn : ℕ
    pub words : s.words ≡ drawn % 2 ^ 64 ∷ served % 2 ^ 64 ∷ length log ∷ []
    pub queue : IsQueue served drawn s.views
    pub slot : IsHome log s.homes s.views ⊎ IsOut s.homes s.views
    pub fits : (seat : ℕ) (k : Known I N) → Knows s.views seat k → Fits log served s.views seat k
    pub authors : All (λ x. (0 < by x) × (by x ≤ length s.views)) log
    pub few : (length s.views ≤ callers) × (callers ≤ 64)
