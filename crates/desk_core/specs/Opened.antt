-- How a desk is opened.
use Rattle.std.specs.Prelude.{◌≡◌, false, [], Some, IfSome}
use Rattle.desk_types.specs.declared.tables.BadTables.{BadTables}
use Rattle.desk_types.specs.declared.tables.Tables.{Tables}
use Rattle.desk_types.specs.Journal.{IsRise}
use Rattle.desk_types.specs.Rules.{AreSound, broken}
use Rattle.desk_types.specs.SettingsValue.{SettingsValue}
use Rattle.desk_keeper.specs.KeeperView.{KeeperView}
use Rattle.desk_keeper.specs.Keeping.{IsSameKeeper}
use Rattle.desk_core.specs.declared.open.OpenFault.{OpenFault}
use Rattle.desk_core.specs.declared.open.OpenFault.TheVariants.{Keeper, BadTables as Bad, NoMemory}
use Rattle.desk_core.specs.DeskValue.{DeskValue}

-- the keeper holds what it held, and counts no fewer faults
pub record HoldsAsBefore (before after : KeeperView) : Type 0 where
  pub same : IsSameKeeper before after
  pub held : after.held ≡ before.held

-- these tables were loaded: they are what the keeper held, where it tells them
abbrev pub AreLoaded : KeeperView → Tables → Type 0
AreLoaded keeper T = IfSome keeper.held (λ held. T ≡ held)

-- the desk stands on the tables loaded, which are sound, and its journal is empty
pub record IsOpened (before : KeeperView) (given : SettingsValue) (d : DeskValue) : Type 0 where
  pub settings : d.settings ≡ given
  pub empty : d.log ≡ []
  pub base : d.base ≡ before.faults
  pub loaded : AreLoaded before d.opening
  pub sound : AreSound d.opening
  pub keeper : HoldsAsBefore before d.keeper

-- the keeper failed while it loaded: its count rose, and it is none that never fails
pub record HasFailed (before after : KeeperView) : Type 0 where
  pub rise : IsRise before.faults after.faults
  pub unsure : before.sure ≡ false

-- the tables loaded break this rule first
pub record HaveBroken (keeper : KeeperView) (bad : BadTables) : Type 0 where
  pub tables : Tables
  pub loaded : AreLoaded keeper tables
  pub broken : broken tables ≡ Some bad

-- why a desk was not opened: want of memory comes freely; the keeper comes back as it was, but for its count
abbrev pub IsUnopened : {K : Type 0} → (K → KeeperView) → KeeperView → OpenFault K → Type 0
IsUnopened view before (Keeper keeper) = HoldsAsBefore before (view keeper) × HasFailed before (view keeper)
IsUnopened view before (Bad keeper bad) = HoldsAsBefore before (view keeper) × HaveBroken before bad
IsUnopened view before (NoMemory keeper) = HoldsAsBefore before (view keeper)
