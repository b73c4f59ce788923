-- What a worker did: which links passed its door, what their sessions did, and how the work ended.
use Rattle.std.specs.Prelude.{◌≡◌, ℕ, ◌-◌, ◌^◌, ◌<◌, ◌≤◌, true, List, [], ◌++◌, length, map, IfSome}
use Rattle.std.specs.Option.{option_map}
use Rattle.desk_doors.specs.DoorView.{DoorView}
use Rattle.desk_io.specs.Faults.{Rose}
use Rattle.desk_types.specs.Serving.{with_seen}
use Rattle.serve_threads.specs.declared.worker.WorkerEnd.{WorkerEnd}
use Rattle.serve_threads.specs.declared.worker.WorkerEnd.TheVariants.{Unused, Closed, Enough, DoorFailed}
use Rattle.serve_threads.specs.Visits.{AreWorked, LinkSides, Visit}
use Rattle.serve_threads.specs.WorkerView.{WorkerView, work_state}

-- these links were accepted at a door in this order, and given back to it in this order; none of them is out
pub record HavePassed {L : Type 0} (visits : List (Visit L)) (before after : DoorView L) : Type 0 where
  pub waiting : before.waiting ≡ option_map (λ links. map (λ v. v.accepted) visits ++ links) after.waiting
  pub given : after.given ≡ option_map (λ links. links ++ map (λ v. v.given_back) visits) before.given
  pub out : before.out < 2 ^ 64 - 1 → after.out ≡ before.out

-- how work of so many sessions at most ended after so many: at a door that is shut, at the last session, or at a fault, of
-- which the count rose; but for the first of these the door is shut or not as before
abbrev pub StopsSo : {L : Type 0} → WorkerEnd → ℕ → ℕ → DoorView L → DoorView L → Type 0
StopsSo Unused most sessions before after = ⊥
StopsSo Closed most sessions before after =
    (sessions < most) × (after.shut ≡ true) × IfSome after.waiting (λ links. links ≡ [])
    × (before.faults ≤ after.faults)
StopsSo Enough most sessions before after =
    (sessions ≡ most) × (after.shut ≡ before.shut) × (before.faults ≤ after.faults)
StopsSo DoorFailed most sessions before after =
    (sessions < most) × (after.shut ≡ before.shut) × Rose before.faults after.faults

-- a worker worked, on the links that came, up to so many sessions
pub record HasWorked
    {H L : Type 0} (sides : LinkSides L) (host_key : List ℕ) (most : ℕ) (before after : WorkerView H L)
    : Type 0 where
  pub visits : List (Visit L)
  pub home : after.home ≡ before.home
  pub service : after.service ≡ with_seen before.service after.service.seen
  pub passed : HavePassed visits before.door after.door
  pub worked : AreWorked sides host_key (work_state before) visits after.messages (work_state after)
  pub sessions : after.sessions ≡ length visits
  pub stopped : StopsSo after.end most after.sessions before.door after.door
