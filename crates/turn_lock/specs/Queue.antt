-- The queue of those that hold a ticket. Tickets are counted from the first one on and do not go round: a word has a ticket modulo 2^64.
use Rattle.std.specs.Prelude.{◌≡◌, ℕ, ◌+◌, ◌<◌, ◌≤◌, Bool, false, List, Option, Some, None, is_some, count_by}
use Rattle.turn_lock.specs.declared.view.Place.{Place}
use Rattle.turn_lock.specs.declared.view.Place.TheVariants.{Away, Waiting, Inside}
use Rattle.turn_lock.specs.declared.view.Known.{Known}
use Rattle.turn_lock.specs.declared.view.View.{View}
use Rattle.turn_lock.specs.declared.view.View.TheVariants.{Live, Spent}
use Rattle.turn_lock.specs.Views.{Knows}

-- the ticket of one that waits or is in
abbrev pub ticket_of : Place → Option ℕ
ticket_of Away = None
ticket_of (Waiting t) = Some t
ticket_of (Inside t) = Some t

-- a live seat that holds a ticket
abbrev pub has_ticket : {I N : Type 0} → View I N → Bool
has_ticket (Live k) = is_some (ticket_of k.place)
has_ticket Spent = false

-- The tickets held are those from `served` up to just below `drawn`, each once: each lies there, no two are the same, and there are as many
pub record IsQueue {I N : Type 0} (served drawn : ℕ) (views : List (View I N)) : Type 0 where
  pub within : (seat : ℕ) (k : Known I N) (t : ℕ) → Knows views seat k → ticket_of k.place ≡ Some t → (served ≤ t) × (t < drawn)
  pub apart : (seat other : ℕ) (k l : Known I N) (t : ℕ) → Knows views seat k → Knows views other l → ticket_of k.place ≡ Some t → ticket_of l.place ≡ Some t → seat ≡ other
  pub each : served + count_by has_ticket views ≡ drawn
