-- What a line of a script spells.
use Rattle.std.specs.Prelude.{ℕ, ◌==◌, not, if◌then◌else◌, List, ◌∷◌, slice_index, Option, Some, None}
use Rattle.std.specs.Str.{is_utf8}
use Rattle.desk_types.specs.declared.call.Call.{Call}
use Rattle.script_api.specs.declared.command.CallWord.{CallWord}
use Rattle.script_api.specs.declared.line.ScriptLine.{ScriptLine}
use Rattle.script_api.specs.declared.line.ScriptLine.TheVariants.{Timed, Bad}
use Rattle.desk_io.specs.Number.{number}
use Rattle.script_api.specs.LineFields.{fields, unspaced_end, behind_first}
use Rattle.script_api.specs.Command.{call_named}
use Rattle.script_api.specs.CallForm.{call_spelled}

-- a call at its moment
abbrev pub timed : ℕ → Option Call → ScriptLine
timed moment (Some call) = Timed moment call
timed moment None = Bad

-- a line by its command, with the text behind it
abbrev pub spelled_by_command : ℕ → Option CallWord → List ℕ → ScriptLine
spelled_by_command moment (Some word) rest = timed moment (call_spelled word rest)
spelled_by_command moment None rest = Bad

-- a line by its moment and its command
abbrev pub spelled_at : Option ℕ → List ℕ → List ℕ → ScriptLine
spelled_at (Some moment) command rest = spelled_by_command moment (call_named command) rest
spelled_at None command rest = Bad

-- a line whose fields are a moment, a command and what the command asks for
abbrev pub spelled_by_fields : List (List ℕ) → List ℕ → ScriptLine
spelled_by_fields (moment ∷ command ∷ more) rest = spelled_at (number moment) command rest
spelled_by_fields _ rest = Bad

-- what a text without spaces at its ends spells
unfoldable pub spelled_by_text : List ℕ → ScriptLine
spelled_by_text text = spelled_by_fields (fields text) (behind_first (behind_first text))

-- what a line spells that is not passed over; spaces at its end are dropped, and a space in front makes it bad
unfoldable pub script_line : List ℕ → ScriptLine
script_line line =
    if not (is_utf8 line) then Bad
    else (if slice_index line 0 == 32 then Bad
    else spelled_by_text (unspaced_end line))
