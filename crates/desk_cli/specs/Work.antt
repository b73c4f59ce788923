-- What a call leaves: a desk that was opened on the keeper, or the keeper.
use Rattle.std.specs.Prelude.{◌≡◌, ℕ, ◌⊎◌, Option, None, Some, option_map}
use Rattle.desk_io.specs.SinkView.{SinkView}
use Rattle.desk_types.specs.declared.tables.BadTables.{BadTables}
use Rattle.desk_types.specs.SettingsValue.{SettingsValue}
use Rattle.desk_keeper.specs.KeeperView.{KeeperView}
use Rattle.desk_core.specs.DeskValue.{DeskValue, IsRunOfLedger, name_of}
use Rattle.desk_core.specs.Opened.{AreLoaded, HasFailed, HaveBroken, HoldsAsBefore}
use Rattle.desk_core.specs.SoloValue.{AreOwn}
use Rattle.printouts.specs.declared.status.TheConstants.{NO_MEMORY}
use Rattle.printouts.specs.CallState.{CallState}
use Rattle.printouts.specs.Saying.{IsSilent, IsWritten}
use Rattle.desk_cli.specs.declared.served.Served.{Served}
use Rattle.desk_cli.specs.Saying.{bad_tables_printout, keeper_fault_printout}
use Rattle.desk_cli.specs.Throughout.{HoldsThroughout}

-- what a call leaves: the status, and the desk that it served or the keeper that comes back
pub record Left : Type 0 where
  pub status : ℕ
  pub desk : Option DeskValue
  pub keeper : Option KeeperView

abbrev pub left_by : {K : Type 0} → (K → KeeperView) → Served K → Left
left_by view served =
    record { status = served.status; desk = served.desk; keeper = option_map view served.keeper }

-- no desk is opened, and nothing is asked of the keeper
pub record HasNoDesk (keeper : KeeperView) (left : Left) : Type 0 where
  pub no_desk : left.desk ≡ None
  pub keeper_now : left.keeper ≡ Some keeper

-- what a desk is opened with: the settings and the keeper
pub record Handed : Type 0 where
  pub settings : SettingsValue
  pub keeper : KeeperView

abbrev pub handed : SettingsValue → KeeperView → Handed
handed settings keeper = record { settings = settings; keeper = keeper }

-- the desk was opened with these, and is the ledger's run
pub record IsOpenedWith (given : Handed) (desk : DeskValue) : Type 0 where
  pub settings : desk.settings ≡ given.settings
  pub base : desk.base ≡ given.keeper.faults
  pub loaded : AreLoaded given.keeper desk.opening
  pub sure : desk.keeper.sure ≡ given.keeper.sure
  pub of_ledger : IsRunOfLedger desk

-- no call changes what a desk was opened with
abbrev pub IsSameOpening : DeskValue → DeskValue → Type 0
IsSameOpening desk desk_now = name_of desk_now ≡ name_of desk

-- the desk that was opened with these is left
pub record HasDesk (given : Handed) (left : Left) (desk : DeskValue) : Type 0 where
  pub there : left.desk ≡ Some desk
  pub no_keeper : left.keeper ≡ None
  pub opened : IsOpenedWith given desk
  pub throughout : HoldsThroughout desk

-- and its entries are all those of the caller 1
pub record IsDeskLeft (given : Handed) (left : Left) (desk : DeskValue) : Type 0 where
  pub has_desk : HasDesk given left desk
  pub own : AreOwn 1 desk.log

-- what is said where no desk is opened, and the status: the tables loaded break a rule, the keeper failed, or memory was
-- wanted
pub record SaysBadTables (keeper : KeeperView) (sink sink_now : SinkView) (status : ℕ) : Type 0 where
  pub bad : BadTables
  pub broken : HaveBroken keeper bad
  pub said : IsWritten sink sink_now (bad_tables_printout bad) status

pub record SaysKeeperFault (keeper keeper_now : KeeperView) (sink sink_now : SinkView) (status : ℕ) : Type 0 where
  pub failed : HasFailed keeper keeper_now
  pub said : IsWritten sink sink_now keeper_fault_printout status

abbrev pub SaysUnopened : KeeperView → KeeperView → SinkView → SinkView → ℕ → Type 0
SaysUnopened keeper keeper_now sink sink_now status =
    (SaysBadTables keeper sink sink_now status ⊎ SaysKeeperFault keeper keeper_now sink sink_now status)
    ⊎ IsSilent NO_MEMORY sink sink_now status

-- the keeper comes back with what it held, since no desk was opened on it, which is said, or for want of memory
pub record ComesBack (keeper : KeeperView) (sink sink_now : SinkView) (left : Left) : Type 0 where
  pub no_desk : left.desk ≡ None
  pub keeper_now : KeeperView
  pub back : left.keeper ≡ Some keeper_now
  pub as_before : HoldsAsBefore keeper keeper_now
  pub said : SaysUnopened keeper keeper_now sink sink_now left.status

-- no desk is opened, and nothing is read
pub record IsUnserved (keeper : KeeperView) (before after : CallState) (left : Left) : Type 0 where
  pub back : ComesBack keeper before.sink after.sink left
  pub unread : after.source ≡ before.source
