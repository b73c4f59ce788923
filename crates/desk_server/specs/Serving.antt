-- How a desk was served by several workers.
use Rattle.std.specs.Prelude.{◌≡◌, ℕ, ◌+◌, ◌≤◌, List, [], length, slice_get, All, Option, Some}
use Rattle.desk_types.specs.declared.entry.Entry.{Entry}
use Rattle.desk_types.specs.Serving.{with_seen}
use Rattle.desk_core.specs.DeskValue.{DeskValue, service_of}
use Rattle.turn_lock.specs.Lists.{IsPrefix}
use Rattle.desk_hall.specs.Callers.{entries_by}
use Rattle.serve_threads.specs.Visits.{AreWorked, LinkSides, Visit, WorkState}
use Rattle.serve_threads.specs.Working.{HavePassed, StopsSo}
use Rattle.desk_server.specs.declared.served.Totals.{Totals}
use Rattle.desk_server.specs.Parts.{AreAt, Orders, Part, Posts, totals_of_parts}

-- a worker of this number at the desk, which has seen these entries, with the moments of its clock
abbrev pub worker_at : ℕ → DeskValue → List Entry → Option (List ℕ) → WorkState
worker_at number desk seen moments =
    record { service = with_seen (service_of number desk) seen; moments = moments }

-- the worker of this number ran a session on each of the links that passed its door; what it has seen begins the desk's
-- journal, and has all its entries there
pub record IsWorkOf
    {L : Type 0} (sides : LinkSides L) (orders : Orders) (desk : DeskValue) (number : ℕ) (part : Part L)
    : Type 0 where
  pub visits : List (Visit L)
  pub seen : List Entry
  pub moments_now : Option (List ℕ)
  pub passed : HavePassed visits part.door part.door_now
  pub worked : AreWorked sides orders.host_key (worker_at number desk [] part.moments) visits part.messages
      (worker_at number desk seen moments_now)
  pub begins : IsPrefix seen desk.log
  pub own : entries_by number desk.log ≡ entries_by number seen
  pub sessions : part.sessions ≡ length visits
  pub stopped : StopsSo part.end orders.sessions part.sessions part.door part.door_now

-- the workers, numbered from 1, served the desk at these posts; its entries are theirs alone, and the totals are what they
-- did
pub record IsServed
    {L : Type 0} (sides : LinkSides L) (orders : Orders) (desk : DeskValue) (posts : Posts L) (totals : Totals)
    : Type 0 where
  pub parts : List (Part L)
  pub at : AreAt posts parts
  pub each : (place : ℕ) (part : Part L) → slice_get parts place ≡ Some part
      → IsWorkOf sides orders desk (place + 1) part
  pub callers : All (λ e. (1 ≤ e.caller) × (e.caller ≤ length parts)) desk.log
  pub sums : totals ≡ totals_of_parts parts
