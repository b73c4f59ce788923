-- What the next line tells, by what a reader of lines answers.
use Rattle.std.proofs.Common.{◌≡◌, ℕ, ◌+◌, ◌<◌, ◌≤◌, inl, inr, List, [], length, Option, Some, None, IfSome, Ok, Err, refl, sym, ap, ◌∙◌, ⊎_elim}
use Rattle.std.specs.Prelude.{nat_le, nat_lt, if◌then◌else◌}
use Rattle.std.specs.Option.{option_map}
use Rattle.std.proofs.lemmas.Bool.{cases_Bool, cases_lt, lt-ltb, cond-true}
use Rattle.desk_io.specs.Lines.{Line, lines, first_line, after_first_line}
use Rattle.desk_io.specs.NextLine.{IsFirstLine}
use Rattle.desk_io.specs.NumberedLines.{is_skipped, past_limit, ToldLines, texts_of, behind_texts, lines_told, unread, told, TellsNext}
use Rattle.desk_io.specs.NumberedValue.{NumberedValue}
use Rattle.desk_io.specs.declared.limits.TheConstants.{LINE_BYTES_MAX, INPUT_LINES_MAX}
use Rattle.desk_io.specs.declared.numbered_lines.LineFault.{LineFault}
use Rattle.desk_io.specs.declared.numbered_lines.LineFault.TheVariants.{LongLine, TooManyLines}
use Rattle.desk_io.specs.declared.numbered_lines.NextLine.{NextLine}
use Rattle.desk_io.specs.declared.numbered_lines.NextLine.TheVariants.{Text, Skipped, Fault}
use Rattle.desk_io.proofs.Ahead.{some-from_long}
use Rattle.desk_io.proofs.ToldLaws.{lines_told-nil, lines_told-past, lines_told-line, past-many, past-none}

-- what bytes tell, behind so many lines
abbrev pub told_of : ℕ → Option (List ℕ) → Option ToldLines
told_of count ahead = option_map (λ bytes. lines_told count (lines bytes)) ahead

pub told-end : (count : ℕ) (ahead : Option (List ℕ)) → IfSome ahead (λ bytes. bytes ≡ []) → IfSome (told_of count ahead) (λ told. told ≡ record { texts = []; end = Ok count })
told-end count None none = tt
told-end count (Some bytes) none = ap (λ (b : List ℕ). lines_told count (lines b)) none ∙ lines_told-nil count

-- the fault of a line with too many bytes behind so many others
abbrev pub fault_of_long : ℕ → LineFault
fault_of_long count = if nat_le INPUT_LINES_MAX count then TooManyLines else LongLine (count + 1)

past-long : (count : ℕ) (line : Line) → LINE_BYTES_MAX < line.size → past_limit count line ≡ Some (fault_of_long count)
past-long count line long = elim (cases_Bool (nat_le INPUT_LINES_MAX count)) [
  | inl many ↦ rw many refl
  | inr few ↦ rw few (cond-true (nat_lt LINE_BYTES_MAX line.size) _ _ (lt-ltb LINE_BYTES_MAX line.size long))
]

pub told-long : (count : ℕ) (ahead : Option (List ℕ)) (fault : LineFault) → IfSome ahead (λ bytes. LINE_BYTES_MAX < (first_line bytes).size) → fault ≡ fault_of_long count →
    IfSome (told_of count ahead) (λ told. told ≡ record { texts = []; end = Err fault })
told-long count None fault long is = tt
told-long count (Some bytes) fault long is =
    lines_told-past count bytes fault (some-from_long LINE_BYTES_MAX bytes long) (past-long count (first_line bytes) long ∙ ap Some (sym is))

module _ (count : ℕ) (now : NumberedValue) where
  told-text : (bytes : List ℕ) → count < INPUT_LINES_MAX → IsFirstLine LINE_BYTES_MAX bytes now.text → now.count ≡ count + 1 →
      lines_told count (lines bytes) ≡ behind_texts (texts_of now.count now.text) (lines_told now.count (lines (after_first_line bytes)))
  told-text bytes few first counted =
      lines_told-line count bytes first.there (past-none count (first_line bytes) few first.short) ∙ rw (counted, first.same) refl

  tells : (bytes : List ℕ) (result : NextLine) → result ≡ (if is_skipped now.text then Skipped else Text) →
      lines_told count (lines bytes) ≡ behind_texts (texts_of now.count now.text) (lines_told now.count (lines (after_first_line bytes))) →
      TellsNext (Some (lines_told count (lines bytes))) (Some (lines_told now.count (lines (after_first_line bytes)))) result now
  tells bytes result is spells = elim (cases_Bool (is_skipped now.text)) [
    | inl skipped ↦ rw (is, skipped) (ap Some (rw skipped at spells))
    | inr spoken ↦ rw (is, spoken) (ap Some (rw spoken at spells))
  ]

  pub told-line : (ahead ahead_now : Option (List ℕ)) (result : NextLine) → count < INPUT_LINES_MAX → ahead_now ≡ option_map after_first_line ahead →
      IfSome ahead (λ bytes. IsFirstLine LINE_BYTES_MAX bytes now.text) → now.count ≡ count + 1 → result ≡ (if is_skipped now.text then Skipped else Text) →
      TellsNext (told_of count ahead) (told_of now.count ahead_now) result now
  told-line None ahead_now result few rest first counted is = elim (cases_Bool (is_skipped now.text)) [
    | inl skipped ↦ rw (rest, is, skipped) refl
    | inr spoken ↦ rw (rest, is, spoken) refl
  ]
  told-line (Some bytes) ahead_now result few rest first counted is = rw rest (tells bytes result is (told-text bytes few first counted))

  pub told-many : (ahead : Option (List ℕ)) → INPUT_LINES_MAX ≤ count → IfSome ahead (λ bytes. 0 < length bytes) →
      IfSome (told_of count ahead) (λ told. told ≡ record { texts = []; end = Err TooManyLines })
  told-many None many some = tt
  told-many (Some bytes) many some = lines_told-past count bytes TooManyLines some (past-many count (first_line bytes) many)

some-first : (ahead : Option (List ℕ)) (text : List ℕ) → IfSome ahead (λ bytes. IsFirstLine LINE_BYTES_MAX bytes text) → IfSome ahead (λ bytes. 0 < length bytes)
some-first None text first = tt
some-first (Some bytes) text first = first.there

-- a line was read, and is counted unless it is one too many
pub told-taken : (was read now : NumberedValue) (left left_now : Option (List ℕ)) (result : NextLine) →
    unread read left_now ≡ option_map after_first_line (unread was left) → IfSome (unread was left) (λ bytes. IsFirstLine LINE_BYTES_MAX bytes read.text) →
    (INPUT_LINES_MAX ≤ was.count → result ≡ Fault TooManyLines) → (was.count < INPUT_LINES_MAX → now ≡ record read { count = was.count + 1 }) →
    (was.count < INPUT_LINES_MAX → result ≡ (if is_skipped read.text then Skipped else Text)) →
    TellsNext (told was left) (told now left_now) result now
told-taken was read now left left_now result rest first full counted skipped =
    ⊎_elim {C = TellsNext (told was left) (told now left_now) result now}
    (λ few. rw (counted few) (told-line was.count (record read { count = was.count + 1 }) (unread was left) (unread read left_now) result few rest first refl (skipped few)))
    (λ many. rw (full many) (told-many was.count now (unread was left) many (some-first (unread was left) read.text first)))
    (cases_lt was.count INPUT_LINES_MAX)
