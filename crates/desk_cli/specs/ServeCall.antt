-- How a call of a server ends, by what its words tell.
use Rattle.std.specs.Prelude.{◌≡◌, ℕ, ◌⊎◌, List, Option, None, Some}
use Rattle.command_line.specs.Reading.{told_by_words}
use Rattle.command_line.specs.declared.command.Command.{Command}
use Rattle.command_line.specs.declared.command.Command.TheVariants.{Auction, Script, Run, Drill, Serve}
use Rattle.command_line.specs.declared.told.Told.{Told}
use Rattle.desk_core.specs.DeskValue.{DeskValue, first_state}
use Rattle.desk_io.specs.SinkView.{SinkView}
use Rattle.desk_keeper.specs.KeeperView.{KeeperView}
use Rattle.desk_server.specs.declared.served.Totals.{Totals}
use Rattle.desk_server.specs.Parts.{Posts}
use Rattle.desk_server.specs.Serving.{IsServed}
use Rattle.desk_types.specs.Summary.{summary}
use Rattle.printouts.specs.declared.status.TheConstants.{NO_MEMORY}
use Rattle.printouts.specs.Printout.{Printout}
use Rattle.printouts.specs.Saying.{IsAllWritten, IsBrokenOff, IsSilent, IsWritten}
use Rattle.serve_threads.specs.Visits.{LinkSides}
use Rattle.desk_cli.specs.Saying.{refused_printout, served_printout}
use Rattle.desk_cli.specs.Work.{ComesBack, HasNoDesk, HasDesk, Left, handed}

-- a call: the keeper handed in, the doors before and after with the moments of the clocks, the output before and after,
-- and what the call leaves
pub record ServeCall (L : Type 0) : Type 0 where
  pub keeper : KeeperView
  pub posts : Posts L
  pub sink : SinkView
  pub sink_now : SinkView
  pub left : Left

-- where the words tell a server, there are as many doors and clocks as workers
abbrev pub AreForWorkers : ℕ → ℕ → Told → Type 0
AreForWorkers doors clocks told = told.command ≡ Serve → (doors ≡ told.workers) × (clocks ≡ told.workers)

-- no door is asked
abbrev pub IsUnasked : {L : Type 0} → ServeCall L → Type 0
IsUnasked c = c.posts.doors_now ≡ c.posts.doors

-- the words tell no server: it says so, and does nothing else
pub record IsServeRefused {L : Type 0} (c : ServeCall L) : Type 0 where
  pub unasked : IsUnasked c
  pub unopened : HasNoDesk c.keeper c.left
  pub said : IsWritten c.sink c.sink_now refused_printout c.left.status

-- memory was wanted for the words
pub record IsServeForgone {L : Type 0} (c : ServeCall L) : Type 0 where
  pub unasked : IsUnasked c
  pub unopened : HasNoDesk c.keeper c.left
  pub silent : IsSilent NO_MEMORY c.sink c.sink_now c.left.status

-- the printout is written, or a write failed
abbrev pub IsPrinted : SinkView → SinkView → Printout → ℕ → Type 0
IsPrinted sink sink_now printout status =
    IsAllWritten sink sink_now printout status ⊎ IsBrokenOff sink sink_now printout status

-- workers served a desk with the settings told, and with the host's key and up to the number of sessions that are told;
-- what they did is written, with the summary of the desk's journal
pub record IsServeMade {L : Type 0} (sides : LinkSides L) (told : Told) (c : ServeCall L) : Type 0 where
  pub desk : DeskValue
  pub key : List ℕ
  pub totals : Totals
  pub is_told : told.host_key ≡ Some key
  pub has_desk : HasDesk (handed told.settings c.keeper) c.left desk
  pub served : IsServed sides (record { host_key = key; sessions = told.sessions }) desk c.posts totals
  pub said : IsPrinted c.sink c.sink_now (served_printout totals (summary (first_state desk) desk.log)) c.left.status

-- no desk is opened, or memory was wanted before a door was asked
pub record IsNotServed {L : Type 0} (c : ServeCall L) : Type 0 where
  pub unasked : IsUnasked c
  pub back : ComesBack c.keeper c.sink c.sink_now c.left

abbrev pub ServerEnds : {L : Type 0} → LinkSides L → Told → ServeCall L → Type 0
ServerEnds sides told c = IsServeMade sides told c ⊎ IsNotServed c

-- how a command ends; all but one are another call's
abbrev pub ServedAs : {L : Type 0} → LinkSides L → Command → Told → ServeCall L → Type 0
ServedAs sides Auction told c = IsServeRefused c
ServedAs sides Script told c = IsServeRefused c
ServedAs sides Run told c = IsServeRefused c
ServedAs sides Drill told c = IsServeRefused c
ServedAs sides Serve told c = ServerEnds sides told c

abbrev pub ServedBy : {L : Type 0} → LinkSides L → Option Told → ServeCall L → Type 0
ServedBy sides None c = IsServeRefused c
ServedBy sides (Some told) c = ServedAs sides told.command told c

-- how a call ends, by its words
abbrev pub ServeEnds : {L : Type 0} → List (List ℕ) → LinkSides L → ServeCall L → Type 0
ServeEnds words sides c = ServedBy sides (told_by_words words) c ⊎ IsServeForgone c
