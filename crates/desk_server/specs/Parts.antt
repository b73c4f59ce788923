-- The parts that the workers have in a service.
use Rattle.std.specs.Prelude.{◌≡◌, ℕ, Bool, true, false, List, Option, map, sum_by}
use Rattle.std.specs.List.{list_any}
use Rattle.desk_doors.specs.DoorView.{DoorView}
use Rattle.serve_threads.specs.declared.worker.Worker.{Worker}
use Rattle.serve_threads.specs.declared.worker.WorkerEnd.{WorkerEnd}
use Rattle.serve_threads.specs.declared.worker.WorkerEnd.TheVariants.{Unused, Closed, Enough, DoorFailed}
use Rattle.desk_server.specs.declared.served.Totals.{Totals}

-- what each worker is asked for: the host's key that it knows, and how many sessions it holds at most
pub record Orders : Type 0 where
  pub host_key : List ℕ
  pub sessions : ℕ

-- a worker's door before and after the service, the moments of its clock, where it tells them, how its work ended, and how
-- many sessions it held and answers it wrote wholly
pub record Part (L : Type 0) : Type 0 where
  pub door : DoorView L
  pub door_now : DoorView L
  pub moments : Option (List ℕ)
  pub end : WorkerEnd
  pub sessions : ℕ
  pub messages : ℕ

-- the doors before and after a service, and the moments of the clocks
pub record Posts (L : Type 0) : Type 0 where
  pub doors : List (DoorView L)
  pub doors_now : List (DoorView L)
  pub moments : List (Option (List ℕ))

-- each part is at the door, and has the clock, of its place
pub record AreAt {L : Type 0} (posts : Posts L) (parts : List (Part L)) : Type 0 where
  pub doors : map (λ p. p.door) parts ≡ posts.doors
  pub doors_now : map (λ p. p.door_now) parts ≡ posts.doors_now
  pub moments : map (λ p. p.moments) parts ≡ posts.moments

-- work that ended since the door failed
abbrev pub is_failed : WorkerEnd → Bool
is_failed Unused = false
is_failed Closed = false
is_failed Enough = false
is_failed DoorFailed = true

-- what these parts come to
abbrev pub totals_of_parts : {L : Type 0} → List (Part L) → Totals
totals_of_parts parts = record {
  sessions = sum_by (λ p. p.sessions) parts;
  messages = sum_by (λ p. p.messages) parts;
  door_failed = list_any (λ p. is_failed p.end) parts;
}

-- what these workers did
abbrev pub totals_of : {V D C : Type 0} → List (Worker V D C) → Totals
totals_of workers = record {
  sessions = sum_by (λ w. w.sessions) workers;
  messages = sum_by (λ w. w.messages) workers;
  door_failed = list_any (λ w. is_failed w.end) workers;
}
