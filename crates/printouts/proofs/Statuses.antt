-- What is answered with a printout.
use Rattle.std.proofs.Common.{◌≢◌, ℕ, arith, refl, sym, ◌∙◌, inl, inr}
use Rattle.desk_io.specs.SinkView.{SinkView}
use Rattle.desk_io.specs.Writing.{AppendsNothing}
use Rattle.desk_io.specs.declared.numbered_lines.LineFault.{LineFault}
use Rattle.desk_io.specs.declared.numbered_lines.LineFault.TheVariants.{BadLine, LongLine, TooManyLines}
use Rattle.printouts.specs.Printout.{Printout, fault_status}
use Rattle.printouts.specs.Saying.{IsWritten}

-- a call that says a printout with a status other than 0 answers another status too
pub written-not_0 : (o q : SinkView) (printout : Printout) (status : ℕ) → printout.status ≢ 0 → IsWritten o q printout status → status ≢ 0
written-not_0 o q printout status other (inl (inl all)) = λ zero. other (sym all.answered ∙ zero)
written-not_0 o q printout status other (inl (inr cut)) = λ zero. omega (arith, cut.answered, zero)
written-not_0 o q printout status other (inr none) = λ zero. omega (arith, none.answered, zero)

pub fault_status-not_0 : (fault : LineFault) → fault_status fault ≢ 0
unfolding fault_status
fault_status-not_0 (BadLine number) = λ e. omega (arith, e)
fault_status-not_0 (LongLine number) = λ e. omega (arith, e)
fault_status-not_0 TooManyLines = λ e. omega (arith, e)

-- a sink to which nothing is written
pub nothing-written : (o : SinkView) → AppendsNothing o o
nothing-written o = record { nothing_written = refl; nothing_taken = refl }
