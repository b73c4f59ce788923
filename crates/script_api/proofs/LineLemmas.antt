-- What a line is by its bytes.
use Rattle.std.proofs.Common.{◌≡◌, ℕ, List, false, inl, inr, refl, IfOk}
use Rattle.std.specs.Prelude.{◌==◌, slice_index, Result}
use Rattle.std.specs.Str.{IsUtf8, is_utf8}
use Rattle.std.proofs.lemmas.Bool.{cases_Bool}
use Rattle.std.proofs.lemmas.Str.{IsUtf8-from_is_utf8, is_utf8-from_IsUtf8}
use Rattle.script_api.specs.declared.line.ScriptLine.{ScriptLine}
use Rattle.script_api.specs.LineFields.{unspaced_end}
use Rattle.script_api.specs.Script.{spelled_by_text, script_line}

pub tests_utf8 : (line : List ℕ) → ¬ (IsUtf8 line) → is_utf8 line ≡ false
tests_utf8 line none = elim (cases_Bool (is_utf8 line)) [
  | inl is ↦ absurd (none (IsUtf8-from_is_utf8 line is))
  | inr other ↦ other
]

line_spelled : (line : List ℕ) → IsUtf8 line → (slice_index line 0 == 32) ≡ false → script_line line ≡ spelled_by_text (unspaced_end line)
unfolding script_line
line_spelled line text begins = rw (is_utf8-from_IsUtf8 line text, begins) refl

-- a line of text that begins with no space
pub spelled-line : {E : Type 0} (line text : List ℕ) (result : Result ScriptLine E) → text ≡ line → IsUtf8 line → (slice_index text 0 == 32) ≡ false →
    IfOk result (λ spelled. spelled ≡ spelled_by_text (unspaced_end text)) → IfOk result (λ spelled. spelled ≡ script_line line)
spelled-line line text result same utf8 begins spelled =
    rw (line_spelled line utf8 (rw same at begins)) (rw same at spelled)
