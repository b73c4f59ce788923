-- What the lines of a script spell.
use Rattle.std.specs.Prelude.{ℕ, List, [], ◌∷◌, ◌++◌, Option, Some, None, Result, Ok, Err}
use Rattle.desk_types.specs.declared.call.Call.{Call}
use Rattle.desk_io.specs.Lines.{lines}
use Rattle.desk_io.specs.NumberedLines.{NumberedText, lines_told}
use Rattle.desk_io.specs.declared.numbered_lines.LineFault.{LineFault}
use Rattle.desk_io.specs.declared.numbered_lines.LineFault.TheVariants as fault
use Rattle.script_api.specs.declared.ending.ScriptEnd.{ScriptEnd}
use Rattle.script_api.specs.declared.ending.ScriptEnd.TheVariants as end
use Rattle.script_api.specs.declared.line.ScriptLine.{ScriptLine}
use Rattle.script_api.specs.declared.line.ScriptLine.TheVariants.{Timed, Bad}
use Rattle.script_api.specs.Script.{script_line}

-- the calls of a script with their moments, and how it ends
pub record ScriptValue : Type 0 where
  pub calls : List (ℕ × Call)
  pub end : ScriptEnd

-- the call of a line with its moment, where the line spells one
abbrev pub calls_of : ScriptLine → List (ℕ × Call)
calls_of (Timed moment call) = (moment, call) ∷ []
calls_of Bad = []

-- how the numbered line ends a script by its form, if it does
abbrev pub form_end : ℕ → ScriptLine → Option ScriptEnd
form_end number (Timed moment call) = None
form_end number Bad = Some (end.BadLine number)

-- how a script ends behind all of its lines, or with one that goes past a limit
abbrev pub end_of : Result ℕ LineFault → ScriptEnd
end_of (Ok count) = end.Ended
end_of (Err (fault.BadLine number)) = end.BadLine number
end_of (Err (fault.LongLine number)) = end.LongLine number
end_of (Err fault.TooManyLines) = end.TooManyLines

-- what is left of a script at a line that may end it, and with calls in front
abbrev pub unless_ended : Option ScriptEnd → ScriptValue → ScriptValue
unless_ended None script = script
unless_ended (Some ending) script = record { calls = []; end = ending }

abbrev pub behind_calls : List (ℕ × Call) → ScriptValue → ScriptValue
behind_calls calls script = record { calls = calls ++ script.calls; end = script.end }

-- what texts before such an end spell: the calls up to the first one that ends the script, and how it ends
unfoldable pub spelled_by : List NumberedText → ScriptEnd → ScriptValue
spelled_by [] ending = record { calls = []; end = ending }
spelled_by (line ∷ more) ending =
    let spelled = script_line line.text in
    unless_ended (form_end line.number spelled) (behind_calls (calls_of spelled) (spelled_by more ending))

-- the script of some bytes
unfoldable pub script_of : List ℕ → ScriptValue
script_of bytes = let told = lines_told 0 (lines bytes) in spelled_by told.texts (end_of told.end)
