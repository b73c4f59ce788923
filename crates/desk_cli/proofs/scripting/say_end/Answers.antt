use Rattle.desk_io.specs.declared.numbered_lines.LineFault.TheVariants.{BadLine, LongLine, TooManyLines}
use Rattle.printouts.specs.Printout.{fault_printout}
use Rattle.printouts.proofs.Statuses.{fault_status-not_0, written-not_0}
use Rattle.desk_cli.proofs.scripting.say_end.Goals as goal

pub returns-in-BadLine-clause-ended : goal.returns-in-BadLine-clause-ended
returns-in-BadLine-clause-ended g c = λ zero. absurd (written-not_0 _ _ (fault_printout (BadLine c.in-BadLine.number)) _ (fault_status-not_0 (BadLine c.in-BadLine.number)) c.say_fault.ensures.written zero)

pub returns-in-LongLine-clause-ended : goal.returns-in-LongLine-clause-ended
returns-in-LongLine-clause-ended g c = λ zero. absurd (written-not_0 _ _ (fault_printout (LongLine c.in-LongLine.number)) _ (fault_status-not_0 (LongLine c.in-LongLine.number)) c.say_fault-in-LongLine.ensures.written zero)

pub returns-in-TooManyLines-clause-ended : goal.returns-in-TooManyLines-clause-ended
returns-in-TooManyLines-clause-ended g c = λ zero. absurd (written-not_0 _ _ (fault_printout TooManyLines) _ (fault_status-not_0 TooManyLines) c.say_fault-in-TooManyLines.ensures.written zero)
