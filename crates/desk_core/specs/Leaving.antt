-- What an attempt of a call leaves.
use Rattle.std.specs.Prelude.{◌≡◌, ℕ, Option, Some, None, Result, Ok, Err}
use Rattle.desk_types.specs.declared.call.Call.{Call}
use Rattle.desk_types.specs.declared.entry.Fault.{Fault}
use Rattle.desk_types.specs.declared.entry.Fault.TheVariants.{Keeper, JournalFull, NoMemory}
use Rattle.desk_types.specs.declared.entry.Outcome.{Outcome}
use Rattle.desk_types.specs.declared.entry.Outcome.TheVariants.{Answered, Faulted}
use Rattle.desk_types.specs.State.{State}
use Rattle.desk_types.specs.Step.{step}
use Rattle.desk_keeper.specs.declared.keeper.KeeperFault.TheVariants as keeper_fault
use Rattle.desk_keeper.specs.KeeperView.{KeeperView}
use Rattle.desk_core.specs.declared.told.Told.{Told}
use Rattle.desk_core.specs.Asking.{IsAsked, changes_at}
use Rattle.desk_core.specs.Told.{IsThere, replied}

-- how a call that was told so stands in the journal, if it does
abbrev pub outcome_of : Result Told Fault → Option Outcome
outcome_of (Ok told) = Some Answered
outcome_of (Err (Keeper before after)) = Some (Faulted before after)
outcome_of (Err (JournalFull entries bytes)) = None
outcome_of (Err NoMemory) = None

-- the rows are a step further, and the reply is told of them
pub record IsStepped (S : State) (moment : ℕ) (call : Call) (told : Told) (left : State) : Type 0 where
  pub state : left ≡ (step S moment call).state
  pub reply : replied left.tables told ≡ (step S moment call).reply
  pub there : IsThere left.tables told

-- the keeper's counts, before the call and behind it
pub record AreCounts (first last : ℕ) (was is_now : KeeperView) : Type 0 where
  pub before : first ≡ was.faults
  pub after : last ≡ is_now.faults

-- the keeper was asked for the changes of the call; the rows are a step further, or as they were where there is a fault
abbrev pub Leaves : State → ℕ → Call → KeeperView → Result Told Fault → State → KeeperView → Type 0
Leaves S moment call keeper (Ok told) left keeper_now =
    IsStepped S moment call told left × IsAsked keeper (changes_at S moment call) (Ok told) keeper_now
Leaves S moment call keeper (Err (Keeper before after)) left keeper_now =
    (left ≡ S) × AreCounts before after keeper keeper_now
    × IsAsked {A = Told} keeper (changes_at S moment call) (Err keeper_fault.Failed) keeper_now
Leaves S moment call keeper (Err (JournalFull entries bytes)) left keeper_now = ⊥
Leaves S moment call keeper (Err NoMemory) left keeper_now =
    (left ≡ S) × IsAsked {A = Told} keeper (changes_at S moment call) (Err keeper_fault.NoMemory) keeper_now
