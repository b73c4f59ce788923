-- What a call changes, and how the keeper is asked for it.
use Rattle.std.specs.Prelude.{◌≡◌, ℕ, List, [], Option, Some, None, option_map, Result, IfErr, OnErr, OnOk}
use Rattle.desk_types.specs.declared.call.Call.{Call}
use Rattle.desk_types.specs.declared.refusal.Refusal.{Refusal}
use Rattle.desk_types.specs.declared.tables.Change.{Change}
use Rattle.desk_types.specs.Changes.{changes}
use Rattle.desk_types.specs.Judged.{judged}
use Rattle.desk_types.specs.State.{State}
use Rattle.desk_types.specs.Step.{at_moment}
use Rattle.desk_types.specs.Tables.{put_all}
use Rattle.desk_keeper.specs.declared.keeper.KeeperFault.{KeeperFault}
use Rattle.desk_keeper.specs.KeeperView.{KeeperView}
use Rattle.desk_keeper.specs.Keeping.{HasCause, IsSameKeeper}

-- the changes of a call with this judgement: a refused one has none
abbrev pub changes_where : State → Call → Option Refusal → List Change
changes_where S call (Some refusal) = []
changes_where S call None = changes S call

-- what a call changes in a state, and at a moment
abbrev pub changes_of : State → Call → List Change
changes_of S call = changes_where S call (judged S call)

abbrev pub changes_at : State → ℕ → Call → List Change
changes_at S moment call = changes_of (at_moment S moment) call

-- the keeper was asked to put the changes, if there are any: it put all or, where there was a fault, none
pub record IsAsked
    {A : Type 0} (before : KeeperView) (changes : List Change) (result : Result A KeeperFault) (after : KeeperView)
    : Type 0 where
  pub same : IsSameKeeper before after
  pub put : OnOk result (after.held ≡ option_map (λ T. put_all T changes) before.held)
  pub kept : OnErr result (after.held ≡ before.held)
  pub cause : IfErr result (HasCause before after)
  pub unasked : changes ≡ [] → after ≡ before
