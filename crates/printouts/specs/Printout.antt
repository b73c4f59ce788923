-- What is written, and the status.
use Rattle.std.specs.Prelude.{ℕ, List, ◌++◌, codes, decimal}
use Rattle.desk_io.specs.declared.numbered_lines.LineFault.{LineFault}
use Rattle.desk_io.specs.declared.numbered_lines.LineFault.TheVariants.{BadLine, LongLine, TooManyLines}
use Rattle.printouts.specs.declared.status.TheConstants.{READ_FAULT, BAD_LINE, PAST_LIMIT}

-- a text, and the status with which the process ends
pub record Printout : Type 0 where
  pub text : List ℕ
  pub status : ℕ

-- the line of a fault in the lines of an input, and its status
unfoldable pub line_fault_text : LineFault → List ℕ
line_fault_text (BadLine number) = codes "bad line " ++ (decimal number ++ codes "\n")
line_fault_text (LongLine number) = codes "long line " ++ (decimal number ++ codes "\n")
line_fault_text TooManyLines = codes "too many lines\n"

unfoldable pub fault_status : LineFault → ℕ
fault_status (BadLine number) = BAD_LINE
fault_status (LongLine number) = PAST_LIMIT
fault_status TooManyLines = PAST_LIMIT

abbrev pub fault_printout : LineFault → Printout
fault_printout fault = record { text = line_fault_text fault; status = fault_status fault }

-- what is said of a read that failed
abbrev pub read_fault_printout : Printout
read_fault_printout = record { text = codes "read fault\n"; status = READ_FAULT }
