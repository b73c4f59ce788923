-- What the judgement on a call gives: the changes and the reply of an accepted call, or why it stops.
use Rattle.std.specs.Prelude.{◌≡◌, ◌≢◌, Bool, true, false, IsTrue, List, [], ◌∷◌, map, Option, None, Some, Result, Ok, Err, ⊤}
use Rattle.std.specs.List.{list_any}
use Rattle.accounts.specs.declared.plan.EditFault.{EditFault}
use Rattle.accounts.specs.declared.plan.EditFault.TheVariants as fault
use Rattle.accounts.specs.AtHome.{CanBePut}
use Rattle.accounts.specs.Planned.{is_of_catalogue}
use Rattle.desk_types.specs.declared.call.Call.{Call}
use Rattle.desk_types.specs.declared.refusal.Refusal.{Refusal}
use Rattle.desk_types.specs.declared.tables.Change.{Change}
use Rattle.desk_types.specs.declared.tables.Change.TheVariants.{PutFate, PutPlacement}
use Rattle.desk_types.specs.declared.tables.Tables.{Tables}
use Rattle.desk_types.specs.Changes.{changes, raises_edition, reply}
use Rattle.desk_types.specs.Judged.{first, judged, refusals}
use Rattle.desk_types.specs.State.{State}
use Rattle.desk_types.specs.Step.{next_edition}
use Rattle.desk_types.specs.Tables.{put_all}
use Rattle.desk_core.specs.declared.plan.Changes.{Changes}
use Rattle.desk_core.specs.declared.plan.Changes.TheVariants.{Nothing, Fate, Placed, Catalogue}
use Rattle.desk_core.specs.declared.plan.Plan.{Plan}
use Rattle.desk_core.specs.declared.stop.Stop.{Stop}
use Rattle.desk_core.specs.declared.stop.Stop.TheVariants.{Refused, NoMemory}
use Rattle.desk_core.specs.Told.{IsThere, replied}
use Rattle.placements.specs.PlacementsValue.{AreNext}

-- the changes, in order
abbrev pub listed : Changes → List Change
listed Nothing = []
listed (Fate number fate) = PutFate number fate ∷ []
listed (Placed list) = map PutPlacement list
listed (Catalogue list) = list

-- whether changes change the catalogue
abbrev pub changes_catalogue : Changes → Bool
changes_catalogue Nothing = false
changes_catalogue (Fate number fate) = false
changes_catalogue (Placed list) = false
changes_catalogue (Catalogue list) = list_any is_of_catalogue list

-- whether changes need no room: there is none, or a fate is set
abbrev pub needs_no_room : Changes → Bool
needs_no_room Nothing = true
needs_no_room (Fate number fate) = true
needs_no_room (Placed list) = false
needs_no_room (Catalogue list) = false

-- changes can be put: placements have the next numbers and moments, and those of the catalogue fit a book of these accounts
abbrev pub CanBePutIn : Tables → Changes → Type 0
CanBePutIn T Nothing = ⊤
CanBePutIn T (Fate number fate) = ⊤
CanBePutIn T (Placed list) = AreNext T.placements list
CanBePutIn T (Catalogue list) = CanBePut T list

-- the state with changes put, of a higher edition where they change the catalogue
abbrev pub with_changes : State → Changes → State
with_changes S list = record S {
  edition = next_edition (changes_catalogue list) S.edition;
  tables = put_all S.tables (listed list);
}

-- no refusal of the call holds, the changes are those of the accepted call, which raises the edition where they change
-- the catalogue, and the reply is told behind them
pub record IsPlanned (S : State) (call : Call) (plan : Plan) : Type 0 where
  pub not_refused : judged S call ≡ None
  pub changed : listed plan.changes ≡ changes S call
  pub raised : changes_catalogue plan.changes ≡ raises_edition S call
  pub can_be_put : CanBePutIn S.tables plan.changes
  pub told : replied (put_all S.tables (listed plan.changes)) plan.told ≡ reply S call
  pub there : IsThere (put_all S.tables (listed plan.changes)) plan.told

-- a refusal is the first of the table that holds; want of memory comes freely
abbrev pub IsFirst : List (Option Refusal) → Stop → Type 0
IsFirst table (Refused refusal) = first table ≡ Some refusal
IsFirst table NoMemory = ⊤

-- the call stops by the first of its refusals that holds, or for want of memory
abbrev pub IsStop : State → Call → Stop → Type 0
IsStop S call stop = IsFirst (refusals S call) stop

-- the stop for an edit's fault
abbrev pub stop_of : EditFault → Stop
stop_of (fault.Refused refusal) = Refused refusal
stop_of fault.NoMemory = NoMemory

-- the call is refused, or makes changes that need no room
abbrev pub TakesNoMemory : Result Plan Stop → Type 0
TakesNoMemory (Ok plan) = IsTrue (needs_no_room plan.changes)
TakesNoMemory (Err stop) = stop ≢ NoMemory
