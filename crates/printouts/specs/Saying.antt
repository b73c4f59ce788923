-- How much of a printout is written, and the status that is answered.
use Rattle.std.specs.Prelude.{◌≡◌, ℕ, ◌⊎◌}
use Rattle.desk_io.specs.Faults.{Rose}
use Rattle.desk_io.specs.Putting.{BreaksOff}
use Rattle.desk_io.specs.SinkView.{SinkView}
use Rattle.desk_io.specs.Writing.{Appends, AppendsNothing}
use Rattle.printouts.specs.declared.status.TheConstants.{NO_MEMORY, WRITE_FAULT}
use Rattle.printouts.specs.Printout.{Printout}

-- all of the printout is written, and its status answered
pub record IsAllWritten (sink sink_now : SinkView) (printout : Printout) (status : ℕ) : Type 0 where
  pub answered : status ≡ printout.status
  pub appended : Appends sink sink_now printout.text

-- a write failed: a beginning of the printout is written, and not all of it
pub record IsBrokenOff (sink sink_now : SinkView) (printout : Printout) (status : ℕ) : Type 0 where
  pub answered : status ≡ WRITE_FAULT
  pub rose : Rose sink.faults sink_now.faults
  pub broken : BreaksOff sink sink_now printout.text

-- nothing is written, and this status answered
pub record IsSilent (wanted : ℕ) (sink sink_now : SinkView) (status : ℕ) : Type 0 where
  pub answered : status ≡ wanted
  pub nothing : AppendsNothing sink sink_now

-- the printout is written, or a write failed, or for want of memory nothing is written
abbrev pub IsWritten : SinkView → SinkView → Printout → ℕ → Type 0
IsWritten sink sink_now printout status =
    (IsAllWritten sink sink_now printout status ⊎ IsBrokenOff sink sink_now printout status)
    ⊎ IsSilent NO_MEMORY sink sink_now status
