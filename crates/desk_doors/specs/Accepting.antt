-- How links leave a door and come back to it.
use Rattle.std.specs.Prelude.{◌≡◌, ◌+◌, ◌≤◌, true, [], ◌∷◌, ◌++◌, IfSome}
use Rattle.std.specs.Option.{option_map}
use Rattle.desk_io.specs.Faults.{Rose, next_count}
use Rattle.desk_doors.specs.DoorView.{DoorView}
use Rattle.desk_doors.specs.declared.door.Came.{Came}
use Rattle.desk_doors.specs.declared.door.Came.TheVariants.{Linked, Closed, Failed}

-- the first link that waits comes, and is out
pub record LinkComes {L : Type 0} (before : DoorView L) (link : L) (after : DoorView L) : Type 0 where
  pub waiting : before.waiting ≡ option_map (λ links. link ∷ links) after.waiting
  pub faults : before.faults ≤ after.faults
  pub rest : after ≡ record before {
    waiting = after.waiting;
    faults = after.faults;
    out = next_count before.out;
  }

-- no link waits, and the door is shut
pub record Shuts {L : Type 0} (before after : DoorView L) : Type 0 where
  pub empty : IfSome before.waiting (λ links. links ≡ [])
  pub faults : before.faults ≤ after.faults
  pub rest : after ≡ record before { faults = after.faults; shut = true }

-- the accept failed, which the count tells, and nothing else changed
pub record FailsToAccept {L : Type 0} (before after : DoorView L) : Type 0 where
  pub rose : Rose before.faults after.faults
  pub rest : after ≡ record before { faults = after.faults }

-- what an accept does to a door, by its answer
abbrev pub Comes : {L : Type 0} → DoorView L → Came L → DoorView L → Type 0
Comes before (Linked link) after = LinkComes before link after
Comes before Closed after = Shuts before after
Comes before Failed after = FailsToAccept before after

-- the link is the last one that was given back, and is no longer out
pub record IsGivenBack {L : Type 0} (before : DoorView L) (link : L) (after : DoorView L) : Type 0 where
  pub given : after.given ≡ option_map (λ links. links ++ link ∷ []) before.given
  pub out : after.out + 1 ≡ before.out
  pub faults : before.faults ≤ after.faults
  pub rest : after ≡ record before { given = after.given; out = after.out; faults = after.faults }
