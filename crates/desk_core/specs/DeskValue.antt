-- A desk as contracts see it.
use Rattle.std.specs.Prelude.{◌≡◌, ℕ, ◌≤◌, IsTrue, List, IfSome, Result, All, ⊤}
use Rattle.desk_types.specs.declared.call.Call.{Call}
use Rattle.desk_types.specs.declared.entry.Entry.{Entry}
use Rattle.desk_types.specs.declared.entry.Fault.{Fault}
use Rattle.desk_types.specs.declared.entry.Outcome.{Outcome}
use Rattle.desk_types.specs.declared.entry.Outcome.TheVariants.{Answered, Faulted}
use Rattle.desk_types.specs.declared.reply.Reply.{Reply}
use Rattle.desk_types.specs.declared.tables.Tables.{Tables}
use Rattle.desk_types.specs.Journal.{IsLegal}
use Rattle.desk_types.specs.Opening.{opened}
use Rattle.desk_types.specs.Rules.{AreSound}
use Rattle.desk_types.specs.Run.{run}
use Rattle.desk_types.specs.Serving.{Ends, HasNoFault, ServiceView}
use Rattle.desk_types.specs.SettingsValue.{AreInRange, SettingsValue}
use Rattle.desk_types.specs.State.{State}
use Rattle.desk_keeper.specs.KeeperView.{KeeperView}
use Rattle.desk_keeper.specs.Keeping.{IsSameKeeper}
use Rattle.desk_core.specs.declared.name.DeskName.{DeskName}
use Rattle.desk_core.specs.JournalValue.{JournalValue}

-- the settings, the tables as they were loaded, the entries of the journal, how many more there is room for without
-- memory, the count of faults that the keeper was handed in with, and the keeper
pub record DeskValue : Type 0 where
  pub settings : SettingsValue
  pub opening : Tables
  pub log : List Entry
  pub spare : ℕ
  pub base : ℕ
  pub keeper : KeeperView

-- the state before all calls, and the state that the calls of the journal lead to
abbrev pub first_state : DeskValue → State
first_state d = opened d.settings d.opening

abbrev pub state : DeskValue → State
state d = run (first_state d) d.log

-- a desk of this journal
abbrev pub desk_of : JournalValue → Tables → ℕ → KeeperView → DeskValue
desk_of journal opening base keeper = record {
  settings = journal.settings;
  opening = opening;
  log = journal.entries;
  spare = journal.spare;
  base = base;
  keeper = keeper;
}

-- a desk as a service of this caller
abbrev pub service_of : ℕ → DeskValue → ServiceView
service_of caller d = record { me = caller; opening = first_state d; seen = d.log; sure = d.keeper.sure }

-- the name of a desk
abbrev pub name_of : DeskValue → DeskName
name_of d = record { settings = d.settings; opening = d.opening; base = d.base; sure = d.keeper.sure }

-- an entry's fault has counts of this range
abbrev pub IsCountedWithin : ℕ → ℕ → Outcome → Type 0
IsCountedWithin base count Answered = ⊤
IsCountedWithin base count (Faulted before after) = (base ≤ before) × (after ≤ count)

-- the desk is the ledger's run: its settings are in range, and from sound tables it went through a legal journal, without faults where the keeper never
-- fails; the keeper holds the rows, where it tells them, and counted each fault since it was handed in
pub record IsRunOfLedger (d : DeskValue) : Type 0 where
  pub settings : AreInRange d.settings
  pub sound : AreSound d.opening
  pub legal : IsLegal d.settings d.log
  pub no_fault : IsTrue d.keeper.sure → HasNoFault d.log
  pub held : IfSome d.keeper.held (λ held. held ≡ (state d).tables)
  pub base : d.base ≤ d.keeper.faults
  pub counted : All (λ e. IsCountedWithin d.base d.keeper.faults e.outcome) d.log

-- a call ends on a desk as on the ledger, with no entry of others, and the desk is the ledger's run
pub record Answers
    (caller : ℕ) (before : DeskValue) (moment : ℕ) (call : Call) (result : Result Reply Fault) (after : DeskValue)
    : Type 0 where
  pub ends : Ends (service_of caller before) moment call result after.log
  pub of_ledger : IsRunOfLedger after

-- no call changes what a desk was opened with, or which keeper it has
pub record IsSameDesk (before after : DeskValue) : Type 0 where
  pub settings : after.settings ≡ before.settings
  pub opening : after.opening ≡ before.opening
  pub base : after.base ≡ before.base
  pub keeper : IsSameKeeper before.keeper after.keeper

-- the rows are those of the ledger's run
pub record IsReached (rows : State) (d : DeskValue) : Type 0 where
  pub run_of_log : rows ≡ state d
  pub of_ledger : IsRunOfLedger d
