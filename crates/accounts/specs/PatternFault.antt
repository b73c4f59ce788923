-- How a text that is no pattern faults an edit.
use Rattle.std.specs.Prelude.{Option, None, Some}
use Rattle.match_types.specs.declared.reading.PatternCause.{PatternCause}
use Rattle.match_types.specs.declared.reading.PatternError.{PatternError}
use Rattle.match_types.specs.Pattern.{cause_of}
use Rattle.desk_types.specs.declared.refusal.Refusal.TheVariants.{BadPattern}
use Rattle.accounts.specs.declared.plan.EditFault.{EditFault}
use Rattle.accounts.specs.declared.plan.EditFault.TheVariants.{Refused, NoMemory}

-- a refusal for the cause, or want of memory
abbrev pub fault_for : Option PatternCause → EditFault
fault_for (Some cause) = Refused (BadPattern cause)
fault_for None = NoMemory

abbrev pub fault_by : PatternError → EditFault
fault_by error = fault_for (cause_of error)
