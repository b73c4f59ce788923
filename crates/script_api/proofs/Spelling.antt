-- What a script spells, by the texts that its bytes tell.
use Rattle.std.proofs.Common.{◌≡◌, ℕ, List, [], ◌∷◌, ◌++◌, Some, None, Result, refl, sym, ap, ◌∙◌, append_assoc, append-nil}
use Rattle.desk_types.specs.declared.call.Call.{Call}
use Rattle.desk_io.specs.Lines.{lines}
use Rattle.desk_io.specs.NumberedLines.{NumberedText, ToldLines, behind_texts, lines_told}
use Rattle.desk_io.specs.declared.numbered_lines.LineFault.{LineFault}
use Rattle.script_api.specs.declared.ending.ScriptEnd.{ScriptEnd}
use Rattle.script_api.specs.Script.{script_line}
use Rattle.script_api.specs.ScriptRun.{AreFirstOf}
use Rattle.script_api.specs.ScriptTurn.{SpellOn}
use Rattle.script_api.specs.ScriptValue.{ScriptValue, calls_of, form_end, end_of, behind_calls, spelled_by, script_of}

behind-assoc : (calls more : List (ℕ × Call)) (script : ScriptValue) → behind_calls calls (behind_calls more script) ≡ behind_calls (calls ++ more) script
behind-assoc calls more script = ap (λ (all : List (ℕ × Call)). let s : ScriptValue = record { calls = all; end = script.end } in s) (sym (append_assoc calls more script.calls))

behind-none : (calls : List (ℕ × Call)) (ending : ScriptEnd) → behind_calls calls (record { calls = []; end = ending }) ≡ record { calls = calls; end = ending }
behind-none calls ending = ap (λ (all : List (ℕ × Call)). let s : ScriptValue = record { calls = all; end = ending } in s) (append-nil calls)

pub spell-none : SpellOn [] []
spell-none more ending = refl

-- one more text that does not end the script
pub spell-text : (texts : List NumberedText) (calls : List (ℕ × Call)) (line : NumberedText) → SpellOn texts calls → form_end line.number (script_line line.text) ≡ None →
    SpellOn (texts ++ line ∷ []) (calls ++ calls_of (script_line line.text))
unfolding spelled_by
spell-text texts calls line spell goes more ending =
    ap (λ (all : List NumberedText). spelled_by all ending) (append_assoc texts (line ∷ []) more) ∙ spell (line ∷ more) ending
    ∙ ap (behind_calls calls) (rw goes refl) ∙ behind-assoc calls (calls_of (script_line line.text)) (spelled_by more ending)

module _ (bytes : List ℕ) (texts : List NumberedText) (calls : List (ℕ × Call)) (spell : SpellOn texts calls) where
  -- nothing else is told
  pub script-all : (end : Result ℕ LineFault) → lines_told 0 (lines bytes) ≡ record { texts = texts; end = end } → script_of bytes ≡ record { calls = calls; end = end_of end }
  unfolding script_of spelled_by
  script-all end told =
      ap (λ (t : ToldLines). spelled_by t.texts (end_of t.end)) told ∙ ap (λ (all : List NumberedText). spelled_by all (end_of end)) (sym (append-nil texts))
      ∙ spell [] (end_of end) ∙ behind-none calls (end_of end)

  script-behind : (rest : ToldLines) → lines_told 0 (lines bytes) ≡ behind_texts texts rest → script_of bytes ≡ behind_calls calls (spelled_by rest.texts (end_of rest.end))
  unfolding script_of
  script-behind rest told = ap (λ (t : ToldLines). spelled_by t.texts (end_of t.end)) told ∙ spell rest.texts (end_of rest.end)

  -- more is told
  pub script-first : (rest : ToldLines) → lines_told 0 (lines bytes) ≡ behind_texts texts rest → AreFirstOf calls (script_of bytes).calls
  script-first rest told = ((spelled_by rest.texts (end_of rest.end)).calls, ap (λ (s : ScriptValue). s.calls) (script-behind rest told))

  -- the next text that is told ends the script
  pub script-ended : (rest : ToldLines) (line : NumberedText) (ending : ScriptEnd) → lines_told 0 (lines bytes) ≡ behind_texts (texts ++ line ∷ []) rest →
      form_end line.number (script_line line.text) ≡ Some ending → script_of bytes ≡ record { calls = calls; end = ending }
  unfolding spelled_by
  script-ended rest line ending told ends =
      let behind : lines_told 0 (lines bytes) ≡ behind_texts texts (behind_texts (line ∷ []) rest) = told ∙ ap (λ (all : List NumberedText). let t : ToldLines = record { texts = all; end = rest.end } in t) (append_assoc texts (line ∷ []) rest.texts) in
      script-behind (behind_texts (line ∷ []) rest) behind ∙ ap (behind_calls calls) (rw ends refl) ∙ behind-none calls ending
