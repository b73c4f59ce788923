-- The lines of an input by their numbers: which texts they tell, up to the first line that goes past a limit.
use Rattle.std.specs.Prelude.{◌≡◌, ℕ, ◌+◌, ◌<◌, Bool, true, false, ◌==◌, nat_le, nat_lt, if◌then◌else◌, List, [], ◌∷◌, ◌++◌, length, Option, Some, None, IfSome, Result, Ok, Err, ◌⊎◌}
use Rattle.std.specs.Option.{option_map}
use Rattle.desk_io.specs.Faults.{Rose}
use Rattle.desk_io.specs.Lines.{Line, has_line_feed, lines, first_line, after_first_line}
use Rattle.desk_io.specs.NumberedValue.{NumberedValue}
use Rattle.desk_io.specs.declared.limits.TheConstants.{LINE_BYTES_MAX, INPUT_LINES_MAX}
use Rattle.desk_io.specs.declared.numbered_lines.LineFault.{LineFault}
use Rattle.desk_io.specs.declared.numbered_lines.LineFault.TheVariants.{LongLine, TooManyLines}
use Rattle.desk_io.specs.declared.numbered_lines.NextLine.{NextLine}
use Rattle.desk_io.specs.declared.numbered_lines.NextLine.TheVariants.{Text, Skipped, End, Fault, ReadFault}

-- whether a line is passed over: it is empty or begins with `#`
abbrev pub is_skipped : List ℕ → Bool
is_skipped [] = true
is_skipped (byte ∷ more) = byte == 35

-- the limit that the line behind so many others goes past, if it does: that of lines, else that of bytes
abbrev pub past_limit : ℕ → Line → Option LineFault
past_limit before line =
    if nat_le INPUT_LINES_MAX before then Some TooManyLines
    else (if nat_lt LINE_BYTES_MAX line.size then Some (LongLine (before + 1)) else None)

-- the text of a line that is not passed over, with the line's number
pub record NumberedText : Type 0 where
  pub number : ℕ
  pub text : List ℕ

-- the texts that lines tell, and what stands behind them: the end, with the number of lines, or a line past a limit
pub record ToldLines : Type 0 where
  pub texts : List NumberedText
  pub end : Result ℕ LineFault

-- the text of the numbered line, where it is not passed over
abbrev pub texts_of : ℕ → List ℕ → List NumberedText
texts_of number text = if is_skipped text then [] else record { number = number; text = text } ∷ []

-- what is told with texts in front, and at a line that may go past a limit
abbrev pub behind_texts : List NumberedText → ToldLines → ToldLines
behind_texts texts told = record { texts = texts ++ told.texts; end = told.end }

abbrev pub unless_past : Option LineFault → ToldLines → ToldLines
unless_past None told = told
unless_past (Some fault) told = record { texts = []; end = Err fault }

-- what lines behind so many others tell
unfoldable pub lines_told : ℕ → List Line → ToldLines
lines_told before [] = record { texts = []; end = Ok before }
lines_told before (line ∷ rest) =
    unless_past (past_limit before line) (behind_texts (texts_of (before + 1) line.text) (lines_told (before + 1) rest))

-- the bytes that are still to be cut into lines, and what these tell, where the source tells them
abbrev pub unread : NumberedValue → Option (List ℕ) → Option (List ℕ)
unread numbered left = option_map (λ bytes. numbered.held ++ bytes) left

abbrev pub told : NumberedValue → Option (List ℕ) → Option ToldLines
told numbered left = option_map (λ bytes. lines_told numbered.count (lines bytes)) (unread numbered left)

-- how many lines an answer took
abbrev pub lines_taken : NextLine → ℕ
lines_taken Text = 1
lines_taken Skipped = 1
lines_taken End = 0
lines_taken (Fault fault) = 0
lines_taken ReadFault = 0

-- a text was the first that was told, and a line that is passed over tells nothing; at the end and at a fault no text
-- was told; a failed read takes nothing
abbrev pub TellsNext : Option ToldLines → Option ToldLines → NextLine → NumberedValue → Type 0
TellsNext before after Text now =
    before ≡ option_map (behind_texts (record { number = now.count; text = now.text } ∷ [])) after
TellsNext before after Skipped now = before ≡ after
TellsNext before after End now = IfSome before (λ told. told ≡ record { texts = []; end = Ok now.count })
TellsNext before after (Fault fault) now = IfSome before (λ told. told ≡ record { texts = []; end = Err fault })
TellsNext before after ReadFault now = after ≡ before

-- the last line is the first of the bytes, and goes past no limit behind so many others
pub record IsFirstOf (bytes : List ℕ) (before : ℕ) (now : NumberedValue) : Type 0 where
  pub some : 0 < length bytes
  pub fits : past_limit before (first_line bytes) ≡ None
  pub text : now.text ≡ (first_line bytes).text
  pub ended : now.is_ended ≡ has_line_feed bytes

-- one more line was read and counted, and is taken from the bytes that are ahead
pub record IsStep (was now : NumberedValue) (left left_now : Option (List ℕ)) : Type 0 where
  pub counted : now.count ≡ was.count + 1
  pub first : IfSome (unread was left) (λ bytes. IsFirstOf bytes was.count now)
  pub rest : unread now left_now ≡ option_map after_first_line (unread was left)

-- a line was read; at the end no byte is left; a failed read takes nothing, and no whole line is held
abbrev pub ReadsNext : NumberedValue → NumberedValue → Option (List ℕ) → Option (List ℕ) → NextLine → Type 0
ReadsNext was now left left_now Text = IsStep was now left left_now
ReadsNext was now left left_now Skipped = IsStep was now left left_now
ReadsNext was now left left_now End = IfSome left_now (λ bytes. bytes ≡ [])
ReadsNext was now left left_now (Fault fault) = Unit {0}
ReadsNext was now left left_now ReadFault = (unread now left_now ≡ unread was left) × (has_line_feed now.held ≡ false)

-- a fault of reading is answered only where the source's count rose
abbrev pub NextCause : ℕ → ℕ → NextLine → Type 0
NextCause before now Text = Unit {0}
NextCause before now Skipped = Unit {0}
NextCause before now End = Unit {0}
NextCause before now (Fault fault) = Unit {0}
NextCause before now ReadFault = Rose before now

-- a text is not passed over, and a line that is skipped is
abbrev pub PassesOver : NextLine → List ℕ → Type 0
PassesOver Text text = is_skipped text ≡ false
PassesOver Skipped text = is_skipped text ≡ true
PassesOver End text = Unit {0}
PassesOver (Fault fault) text = Unit {0}
PassesOver ReadFault text = Unit {0}

-- there are no bytes, or a line feed ends them
abbrev pub AreEnded : List ℕ → Type 0
AreEnded bytes = (bytes ≡ []) ⊎ ((front : List ℕ) × (bytes ≡ front ++ 10 ∷ []))

-- a failed read cut bytes off: what was read of them up to its last line feed tells these texts, and nothing behind it
pub record AreCutOff (bytes : List ℕ) (left : Option (List ℕ)) (texts : List NumberedText) : Type 0 where
  pub part : List ℕ
  pub rest : List ℕ
  pub read : Some bytes ≡ option_map (λ more. part ++ (rest ++ more)) left
  pub ended : AreEnded part
  pub no_feed : has_line_feed rest ≡ false
  pub count : ℕ
  pub told : lines_told 0 (lines part) ≡ record { texts = texts; end = Ok count }

-- of the bytes a part was read, which is empty or ends with a line feed, and goes past no limit: it tells these texts,
-- whatever stands behind it
pub record AreRead
    (bytes : List ℕ) (texts : List NumberedText) (now : NumberedValue) (left : Option (List ℕ))
    : Type 0 where
  pub part : List ℕ
  pub whole : Some bytes ≡ option_map (λ more. part ++ more) (unread now left)
  pub ended : AreEnded part
  pub tells :
      (more : List ℕ)
      → lines_told 0 (lines (part ++ more)) ≡ behind_texts texts (lines_told now.count (lines more))

-- the same, where the bytes are told
abbrev pub ReadSoFar : Option (List ℕ) → List NumberedText → NumberedValue → Option (List ℕ) → Type 0
ReadSoFar whole texts now left = IfSome whole (λ bytes. AreRead bytes texts now left)
