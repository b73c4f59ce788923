-- How a script is served.
use Rattle.std.specs.Prelude.{ℕ, ◌≤◌, ◌⊎◌, []}
use Rattle.desk_types.specs.Serving.{with_seen}
use Rattle.desk_core.specs.DeskValue.{DeskValue, service_of}
use Rattle.desk_io.specs.SinkView.{SinkView}
use Rattle.desk_io.specs.declared.numbered_lines.LineFault.TheVariants as line
use Rattle.script_api.specs.declared.ending.ScriptEnd.{ScriptEnd}
use Rattle.script_api.specs.declared.ending.ScriptEnd.TheVariants.{Ended, BadLine, LongLine, TooManyLines, ReadFault, WriteFault, NoMemory}
use Rattle.script_api.specs.ScriptRun.{EndCause, IsRun, kind_of, script_at}
use Rattle.printouts.specs.declared.status.TheConstants.{ENDED, WRITE_FAULT, NO_MEMORY}
use Rattle.printouts.specs.CallState.{CallState}
use Rattle.printouts.specs.Printout.{fault_printout, read_fault_printout}
use Rattle.printouts.specs.Saying.{IsSilent, IsWritten}
use Rattle.desk_cli.specs.Work.{Handed, IsDeskLeft, IsUnserved, Left}

-- what is written behind the answers of a script, by its end, and the status
abbrev pub IsLastSaid : SinkView → SinkView → ScriptEnd → ℕ → Type 0
IsLastSaid sink sink_now Ended status = IsSilent ENDED sink sink_now status
IsLastSaid sink sink_now (BadLine k) status = IsWritten sink sink_now (fault_printout (line.BadLine k)) status
IsLastSaid sink sink_now (LongLine k) status = IsWritten sink sink_now (fault_printout (line.LongLine k)) status
IsLastSaid sink sink_now TooManyLines status = IsWritten sink sink_now (fault_printout line.TooManyLines) status
IsLastSaid sink sink_now ReadFault status = IsWritten sink sink_now read_fault_printout status
IsLastSaid sink sink_now WriteFault status = IsSilent WRITE_FAULT sink sink_now status
IsLastSaid sink sink_now NoMemory status = IsSilent NO_MEMORY sink sink_now status

-- the script that the input holds was run for the caller 1, from an empty journal to that of the desk, its answers were
-- written, and then how it ended
pub record IsScriptServed (before after : CallState) (desk : DeskValue) (status : ℕ) : Type 0 where
  pub end : ScriptEnd
  pub sink_then : SinkView
  pub ran : IsRun (script_at (with_seen (service_of 1 desk) []) before.source before.sink)
      (script_at (service_of 1 desk) after.source sink_then) end
  pub cause : EndCause (kind_of end) before.source after.source before.sink sink_then
  pub no_fewer_faults : (before.sink.faults ≤ sink_then.faults) × (sink_then.faults ≤ after.sink.faults)
  pub said : IsLastSaid sink_then after.sink end status

-- a desk that is opened with these serves the script, or none is opened
pub record IsScriptMade (given : Handed) (before after : CallState) (left : Left) : Type 0 where
  pub desk : DeskValue
  pub desk_left : IsDeskLeft given left desk
  pub run : IsScriptServed before after desk left.status

abbrev pub ScriptEnds : Handed → CallState → CallState → Left → Type 0
ScriptEnds given before after left = IsScriptMade given before after left ⊎ IsUnserved given.keeper before after left
