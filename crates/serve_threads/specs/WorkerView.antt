-- A worker as contracts see it.
use Rattle.std.specs.Prelude.{◌≡◌, ℕ, List, Option}
use Rattle.desk_doors.specs.DoorView.{DoorView}
use Rattle.desk_types.specs.Serving.{ServiceView}
use Rattle.serve_threads.specs.declared.worker.Worker.{Worker}
use Rattle.serve_threads.specs.declared.worker.WorkerEnd.{WorkerEnd}
use Rattle.serve_threads.specs.declared.worker.WorkerEnd.TheVariants.{Unused}
use Rattle.serve_threads.specs.Visits.{WorkState}

-- what its service serves and has seen, its door, the moments that its clock tells, and what became of its work
pub record WorkerView (H L : Type 0) : Type 0 where
  pub home : H
  pub service : ServiceView
  pub door : DoorView L
  pub moments : Option (List ℕ)
  pub end : WorkerEnd
  pub sessions : ℕ
  pub messages : ℕ

-- how contracts see the parts of a worker
pub record PartsSeen (V D C H L : Type 0) : Type 0 where
  pub home : V → H
  pub service : V → ServiceView
  pub door : D → DoorView L
  pub moments : C → Option (List ℕ)

abbrev pub parts_seen :
    {V D C H L : Type 0} → (V → H) → (V → ServiceView) → (D → DoorView L) → (C → Option (List ℕ)) → PartsSeen V D C H L
parts_seen home service door moments = record { home = home; service = service; door = door; moments = moments }

-- a worker, seen by its parts
abbrev pub worker_view : {V D C H L : Type 0} → PartsSeen V D C H L → Worker V D C → WorkerView H L
worker_view seen worker = record {
  home = seen.home worker.service;
  service = seen.service worker.service;
  door = seen.door worker.door;
  moments = seen.moments worker.clock;
  end = worker.end;
  sessions = worker.sessions;
  messages = worker.messages;
}

-- its service and its clock
abbrev pub work_state : {H L : Type 0} → WorkerView H L → WorkState
work_state worker = record { service = worker.service; moments = worker.moments }

-- it has not worked
pub record IsUnused {V D C : Type 0} (worker : Worker V D C) : Type 0 where
  pub end : worker.end ≡ Unused
  pub sessions : worker.sessions ≡ 0
  pub messages : worker.messages ≡ 0
