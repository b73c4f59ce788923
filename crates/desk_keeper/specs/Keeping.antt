-- What a keeper does with its tables.
use Rattle.std.specs.Prelude.{◌≡◌, ◌≢◌, ◌≤◌, ℕ, true, false, List, [], ◌∷◌, Option, option_map, Result, Ok, Err, IfErr, IfOk, IfSome, ⊤}
use Rattle.desk_types.specs.declared.rows.Fate.{Fate}
use Rattle.desk_types.specs.declared.tables.Change.{Change}
use Rattle.desk_types.specs.declared.tables.Change.TheVariants.{PutFate}
use Rattle.desk_types.specs.declared.tables.Tables.{Tables}
use Rattle.desk_types.specs.Journal.{IsRise}
use Rattle.desk_types.specs.Tables.{put_all}
use Rattle.desk_keeper.specs.declared.keeper.KeeperFault.{KeeperFault}
use Rattle.desk_keeper.specs.declared.keeper.KeeperFault.TheVariants.{Failed, NoMemory}
pub use Rattle.desk_keeper.specs.KeeperView.{KeeperView}

-- no call lowers the count of faults, or changes whether fates take memory and whether it never fails
pub record IsSameKeeper (before after : KeeperView) : Type 0 where
  pub faults : before.faults ≤ after.faults
  pub fates_free : after.fates_free ≡ before.fates_free
  pub sure : after.sure ≡ before.sure

-- a failure comes only where the count rose, and never of a sure keeper; want of memory comes freely
abbrev pub HasCause : KeeperView → KeeperView → KeeperFault → Type 0
HasCause before after Failed = IsRise before.faults after.faults × (before.sure ≡ false)
HasCause before after NoMemory = ⊤

-- the tables are loaded, and stay; or a fault has its cause
pub record Loads (before : KeeperView) (result : Result Tables KeeperFault) (after : KeeperView) : Type 0 where
  pub same : IsSameKeeper before after
  pub held : after.held ≡ before.held
  pub loaded : IfOk result (λ T. IfSome before.held (λ held. T ≡ held))
  pub cause : IfErr result (HasCause before after)

-- the tables after the changes, or as they were where there was a fault
abbrev pub held_after : Option Tables → List Change → Result Unit KeeperFault → Option Tables
held_after held changes (Ok done) = option_map (λ T. put_all T changes) held
held_after held changes (Err fault) = held

-- the changes are put, all or none, and a fault has its cause; where fates take no memory, one fate does not want it
pub record Applies
    (before : KeeperView) (changes : List Change) (result : Result Unit KeeperFault) (after : KeeperView) : Type 0 where
  pub same : IsSameKeeper before after
  pub held : after.held ≡ held_after before.held changes result
  pub cause : IfErr result (HasCause before after)
  pub one_fate : before.fates_free ≡ true → (number : ℕ) (fate : Fate) → changes ≡ PutFate number fate ∷ []
      → result ≢ Err NoMemory
