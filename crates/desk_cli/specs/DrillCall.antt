-- How a drill is made.
use Rattle.std.specs.Prelude.{ℕ, ◌⊎◌, []}
use Rattle.desk_types.specs.Serving.{ServiceView, with_seen}
use Rattle.desk_types.specs.Summary.{summary}
use Rattle.desk_core.specs.DeskValue.{DeskValue, first_state, service_of}
use Rattle.desk_io.specs.SinkView.{SinkView}
use Rattle.drill_calls.specs.DrillRun.{IsDrilled, IsDrilledInPart}
use Rattle.printouts.specs.declared.status.TheConstants.{NO_MEMORY}
use Rattle.printouts.specs.CallState.{CallState}
use Rattle.printouts.specs.Saying.{IsSilent, IsWritten}
use Rattle.desk_cli.specs.Saying.{summary_printout}
use Rattle.desk_cli.specs.Work.{Handed, IsDeskLeft, IsUnserved, Left}

-- the number that a drill's draws start from, and its number of accounts
pub record DrillWords : Type 0 where
  pub start : ℕ
  pub size : ℕ

-- the desk as the service of the caller 1, before its first entry
abbrev pub fresh : DeskValue → ServiceView
fresh desk = with_seen (service_of 1 desk) []

-- the drill was made for the caller 1, from an empty journal to that of the desk, and its summary is written
pub record IsDrillTold (drill : DrillWords) (sink sink_now : SinkView) (desk : DeskValue) (status : ℕ) : Type 0 where
  pub drilled : IsDrilled drill.start drill.size (fresh desk) (service_of 1 desk)
  pub said : IsWritten sink sink_now (summary_printout (summary (first_state desk) desk.log)) status

-- for want of memory a part of it was made, and nothing is written
pub record IsDrillCut (drill : DrillWords) (sink sink_now : SinkView) (desk : DeskValue) (status : ℕ) : Type 0 where
  pub in_part : IsDrilledInPart drill.start drill.size (fresh desk) (service_of 1 desk)
  pub silent : IsSilent NO_MEMORY sink sink_now status

abbrev pub IsDrillServed : DrillWords → SinkView → SinkView → DeskValue → ℕ → Type 0
IsDrillServed drill sink sink_now desk status =
    IsDrillTold drill sink sink_now desk status ⊎ IsDrillCut drill sink sink_now desk status

-- the drill is made on a desk that is opened with these, or none is opened
pub record IsDrillMade (drill : DrillWords) (given : Handed) (before after : CallState) (left : Left) : Type 0 where
  pub desk : DeskValue
  pub desk_left : IsDeskLeft given left desk
  pub run : IsDrillServed drill before.sink after.sink desk left.status

abbrev pub DrillEnds : DrillWords → Handed → CallState → CallState → Left → Type 0
DrillEnds drill given before after left =
    IsDrillMade drill given before after left ⊎ IsUnserved given.keeper before after left
