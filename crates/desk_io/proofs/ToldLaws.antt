-- What lines tell, line by line.
use Rattle.std.proofs.Common.{◌≡◌, ℕ, ◌+◌, ◌<◌, ◌≤◌, List, [], length, Some, None, Ok, Err, refl, ap, ◌∙◌}
use Rattle.std.specs.Prelude.{nat_le, nat_lt}
use Rattle.std.proofs.lemmas.Bool.{le-leb, lt-leb, le-ltb, cond-true, cond-false}
use Rattle.desk_io.specs.Lines.{Line, lines, first_line, after_first_line}
use Rattle.desk_io.specs.NumberedLines.{past_limit, texts_of, behind_texts, unless_past, lines_told}
use Rattle.desk_io.specs.declared.limits.TheConstants.{LINE_BYTES_MAX, INPUT_LINES_MAX}
use Rattle.desk_io.specs.declared.numbered_lines.LineFault.{LineFault}
use Rattle.desk_io.specs.declared.numbered_lines.LineFault.TheVariants.{TooManyLines}
use Rattle.desk_io.proofs.LineLaws.{lines-nil, lines-cons}

-- no bytes tell no text
pub lines_told-nil : (before : ℕ) → lines_told before (lines []) ≡ record { texts = []; end = Ok before }
unfolding lines_told
lines_told-nil before = ap (lines_told before) lines-nil

lines_told-cons : (before : ℕ) (bytes : List ℕ) → 0 < length bytes →
    lines_told before (lines bytes) ≡ unless_past (past_limit before (first_line bytes)) (behind_texts (texts_of (before + 1) (first_line bytes).text) (lines_told (before + 1) (lines (after_first_line bytes))))
unfolding lines_told
lines_told-cons before bytes some = ap (lines_told before) (lines-cons bytes some)

-- a line past a limit ends what is told, and any other goes in front of what stands behind it
pub lines_told-past : (before : ℕ) (bytes : List ℕ) (fault : LineFault) → 0 < length bytes → past_limit before (first_line bytes) ≡ Some fault →
    lines_told before (lines bytes) ≡ record { texts = []; end = Err fault }
lines_told-past before bytes fault some past = lines_told-cons before bytes some ∙ rw past refl

pub lines_told-line : (before : ℕ) (bytes : List ℕ) → 0 < length bytes → past_limit before (first_line bytes) ≡ None →
    lines_told before (lines bytes) ≡ behind_texts (texts_of (before + 1) (first_line bytes).text) (lines_told (before + 1) (lines (after_first_line bytes)))
lines_told-line before bytes some fits = lines_told-cons before bytes some ∙ rw fits refl

-- which limit a line goes past
pub past-many : (before : ℕ) (line : Line) → INPUT_LINES_MAX ≤ before → past_limit before line ≡ Some TooManyLines
past-many before line many = cond-true (nat_le INPUT_LINES_MAX before) _ _ (le-leb INPUT_LINES_MAX before many)

pub past-none : (before : ℕ) (line : Line) → before < INPUT_LINES_MAX → line.size ≤ LINE_BYTES_MAX → past_limit before line ≡ None
past-none before line few short =
    cond-false (nat_le INPUT_LINES_MAX before) _ _ (lt-leb INPUT_LINES_MAX before few) ∙ cond-false (nat_lt LINE_BYTES_MAX line.size) _ _ (le-ltb LINE_BYTES_MAX line.size short)
