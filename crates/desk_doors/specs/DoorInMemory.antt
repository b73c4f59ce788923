-- A door in memory as contracts see it, and what its accepts answer.
use Rattle.std.specs.Prelude.{◌≡◌, refl, ℕ, Bool, true, false, if◌then◌else◌, List, [], ◌∷◌, drop, Some}
use Rattle.desk_io.specs.Faults.{next_count}
use Rattle.desk_io.specs.LinkInMemory.{LinkValue}
use Rattle.desk_io.specs.SourceInMemory.{is_failing}
use Rattle.desk_doors.specs.DoorView.{DoorView}
use Rattle.desk_doors.specs.declared.door.Came.{Came}
use Rattle.desk_doors.specs.declared.door.Came.TheVariants.{Linked, Closed, Failed}

-- the links that wait and those given back, how many accepts were made, the numbers of those that fail, how many failed,
-- how many links are out, and whether an accept found none
pub record DoorValue : Type 0 where
  pub waiting : List LinkValue
  pub given : List LinkValue
  pub accepts : ℕ
  pub fails : List ℕ
  pub faults : ℕ
  pub out : ℕ
  pub closed : Bool

-- a door is shut where an accept found none and none waits
abbrev pub is_shut : List LinkValue → Bool → Bool
is_shut [] closed = closed
is_shut (_ ∷ _) closed = false

-- it tells its links
abbrev pub view_of_door : DoorValue → DoorView LinkValue
view_of_door door = record {
  waiting = Some door.waiting;
  given = Some door.given;
  faults = door.faults;
  out = door.out;
  shut = is_shut door.waiting door.closed;
}

-- the first link, where there is one
abbrev pub first_of : List LinkValue → Came LinkValue
first_of [] = Closed
first_of (link ∷ _) = Linked link

-- what the next accept answers
abbrev pub accept_answer : DoorValue → Came LinkValue
accept_answer door = if is_failing door.fails (next_count door.accepts) then Failed else first_of door.waiting

-- the door after an accept with this answer
abbrev pub after_accept : DoorValue → Came LinkValue → DoorValue
after_accept door (Linked _) =
    record door { waiting = drop 1 door.waiting; accepts = next_count door.accepts; out = next_count door.out }
after_accept door Closed = record door { accepts = next_count door.accepts; closed = true }
after_accept door Failed = record door { accepts = next_count door.accepts; faults = next_count door.faults }

-- at a door that is shut nothing waits
pub shut_waits_empty : (links : List LinkValue) (closed : Bool) → is_shut links closed ≡ true → links ≡ []
shut_waits_empty [] closed h = refl
shut_waits_empty (link ∷ links) closed h = Prim.search
