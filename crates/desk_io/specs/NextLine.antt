-- What a reader of lines answers.
use Rattle.std.specs.Prelude.{◌≡◌, ℕ, ◌<◌, ◌≤◌, false, List, [], ◌++◌, length, Option, IfSome}
use Rattle.std.specs.Option.{option_map}
use Rattle.desk_io.specs.Faults.{Rose}
use Rattle.desk_io.specs.Lines.{has_line_feed, first_line, after_first_line}
use Rattle.desk_io.specs.Reader.{ReaderValue}
use Rattle.desk_io.specs.declared.line_reader.LineGot.{LineGot}
use Rattle.desk_io.specs.declared.line_reader.LineGot.TheVariants.{Line as GotLine, End, TooLong, ReadFault}

-- the bytes that are still to be cut into lines: those that the reader holds, then those of the source, where told
abbrev pub ahead : ReaderValue → Option (List ℕ) → Option (List ℕ)
ahead reader left = option_map (λ bytes. reader.held ++ bytes) left

-- the text is that of the first line of the bytes, which is no longer than `max`
pub record IsFirstLine (max : ℕ) (bytes text : List ℕ) : Type 0 where
  pub there : 0 < length bytes
  pub same : text ≡ (first_line bytes).text
  pub short : (first_line bytes).size ≤ max

-- a line is the first one, and is taken; the end comes where no byte is left; a line is too long by its size; a fault takes nothing
abbrev pub GivesLine : ℕ → Option (List ℕ) → Option (List ℕ) → LineGot → List ℕ → Type 0
GivesLine max before after GotLine text =
    (after ≡ option_map after_first_line before) × IfSome before (λ bytes. IsFirstLine max bytes text)
GivesLine max before after End text = (after ≡ before) × IfSome before (λ bytes. bytes ≡ [])
GivesLine max before after TooLong text = (after ≡ before) × IfSome before (λ bytes. max < (first_line bytes).size)
GivesLine max before after ReadFault text = after ≡ before

-- a fault of reading is answered only where the source's count rose
abbrev pub LineCause : ℕ → ℕ → LineGot → Type 0
LineCause before now GotLine = Unit {0}
LineCause before now End = Unit {0}
LineCause before now TooLong = Unit {0}
LineCause before now ReadFault = Rose before now

-- a line has at most `max` bytes, whatever the source tells; another answer leaves no line
abbrev pub LineFits : ℕ → LineGot → List ℕ → Type 0
LineFits max GotLine text = length text ≤ max
LineFits max End text = text ≡ []
LineFits max TooLong text = text ≡ []
LineFits max ReadFault text = text ≡ []

-- what bytes that end without a line feed answer: the end where there are none
abbrev pub TakesRest : List ℕ → LineGot → Type 0
TakesRest held GotLine = 0 < length held
TakesRest held End = held ≡ []
TakesRest held TooLong = ⊥
TakesRest held ReadFault = ⊥

-- a line is ended by a line feed exactly where one stood ahead; a fault comes where none stands among the bytes held
abbrev pub EndsLine : Option (List ℕ) → LineGot → ReaderValue → Type 0
EndsLine before GotLine reader = IfSome before (λ bytes. reader.is_ended ≡ has_line_feed bytes)
EndsLine before End reader = Unit {0}
EndsLine before TooLong reader = Unit {0}
EndsLine before ReadFault reader = has_line_feed reader.held ≡ false
