-- The turns of the loop that reads an auction.
use Rattle.std.proofs.Common.{◌≡◌, ℕ, Bool, true, false, List, [], ◌∷◌, ◌++◌, Option, Some, None, IfSome, Result, Ok, Err, refl, sym, ap, ◌∙◌, append-nil}
use Rattle.std.specs.Prelude.{not}
use Rattle.std.specs.Option.{option_map}
use Rattle.desk_io.specs.Lines.{has_line_feed, lines}
use Rattle.desk_io.specs.NumberedLines.{is_skipped, NumberedText, ToldLines, texts_of, behind_texts, lines_told, unread, told, AreCutOff, IsStep}
use Rattle.desk_io.specs.NumberedValue.{NumberedValue}
use Rattle.desk_io.specs.declared.numbered_lines.LineFault.{LineFault}
use Rattle.desk_io.proofs.ReadSoFar.{read-none, read-line, read-last, read-through, read-all, read-cut_off, texts_of-spoken, texts_of-skipped}
use Rattle.auction_page.specs.declared.fault.ReadEnd.{ReadEnd}
use Rattle.auction_page.specs.declared.fault.ReadEnd.TheVariants.{Fault, ReadFault, NoMemory}
use Rattle.auction_page.specs.Ending.{IsCutOff, Gives, EndsBy, IsReading, Goes}
use Rattle.auction_page.specs.Reading.{SoFar, nothing_yet, take_text, and_then, take_texts, auction_at, spelled_by, auction_in}

-- texts are taken one after another
and_then-and_then : {B : Type 0} (taken : Result SoFar LineFault) (f : SoFar → Result B LineFault) (g : SoFar → Result B LineFault) (h : SoFar → Result SoFar LineFault) →
    ((now : SoFar) → f now ≡ and_then g (h now)) → and_then f taken ≡ and_then g (and_then h taken)
and_then-and_then (Ok now) f g h same = same now
and_then-and_then (Err fault) f g h same = refl

take_texts-append : (texts more : List NumberedText) (so_far : SoFar) → take_texts so_far (texts ++ more) ≡ and_then (λ now. take_texts now more) (take_texts so_far texts)
unfolding take_texts
take_texts-append [] more so_far = refl
take_texts-append (next ∷ rest) more so_far =
    and_then-and_then (take_text so_far next) (λ now. take_texts now (rest ++ more)) (λ now. take_texts now more) (λ now. take_texts now rest) (λ now. take_texts-append rest more now)

take_texts-one : (so_far : SoFar) (next : NumberedText) → take_texts so_far (next ∷ []) ≡ take_text so_far next
unfolding take_texts
take_texts-one so_far next = only (take_text so_far next)
  where
    only : (taken : Result SoFar LineFault) → and_then (λ (now : SoFar). let r : Result SoFar LineFault = Ok now in r) taken ≡ taken
    only (Ok now) = refl
    only (Err fault) = refl

take_texts-none : (so_far : SoFar) → take_texts so_far [] ≡ Ok so_far
unfolding take_texts
take_texts-none so_far = refl

-- what is spelled behind texts that have no fault, by the text of one more line
module _ (texts : List NumberedText) (so_far : SoFar) (taken : take_texts nothing_yet texts ≡ Ok so_far) (number : ℕ) (text : List ℕ) where
  pub taken-spoken : is_skipped text ≡ false → take_texts nothing_yet (texts ++ texts_of number text) ≡ take_text so_far (record { number = number; text = text })
  taken-spoken spoken =
      ap (λ (more : List NumberedText). take_texts nothing_yet (texts ++ more)) (texts_of-spoken number text spoken)
      ∙ take_texts-append texts (record { number = number; text = text } ∷ []) nothing_yet ∙ rw taken (take_texts-one so_far (record { number = number; text = text }))

  pub taken-skipped : is_skipped text ≡ true → take_texts nothing_yet (texts ++ texts_of number text) ≡ Ok so_far
  taken-skipped skipped =
      ap (λ (more : List NumberedText). take_texts nothing_yet (texts ++ more)) (texts_of-skipped number text skipped)
      ∙ ap (take_texts nothing_yet) (append-nil texts) ∙ taken

-- what is told as these texts up to an end, where none has a fault, and what is told with a text that has one
spelled-told : (bytes : List ℕ) (texts : List NumberedText) (end : Result ℕ LineFault) (so_far : SoFar) → lines_told 0 (lines bytes) ≡ record { texts = texts; end = end } →
    take_texts nothing_yet texts ≡ Ok so_far → auction_in bytes ≡ auction_at end so_far
unfolding auction_in spelled_by
spelled-told bytes texts end so_far is taken = ap spelled_by is ∙ rw taken refl

spelled-all : (whole : Option (List ℕ)) (texts : List NumberedText) (end : Result ℕ LineFault) (so_far : SoFar) → IfSome whole (λ bytes. lines_told 0 (lines bytes) ≡ record { texts = texts; end = end }) →
    take_texts nothing_yet texts ≡ Ok so_far → IfSome whole (λ bytes. auction_in bytes ≡ auction_at end so_far)
spelled-all None texts end so_far is taken = tt
spelled-all (Some bytes) texts end so_far is taken = spelled-told bytes texts end so_far is taken

fault-told : (bytes : List ℕ) (texts : List NumberedText) (rest : ToldLines) (fault : LineFault) → lines_told 0 (lines bytes) ≡ behind_texts texts rest →
    take_texts nothing_yet texts ≡ Err fault → auction_in bytes ≡ Err fault
unfolding auction_in spelled_by
fault-told bytes texts rest fault is taken = ap spelled_by is ∙ rw (take_texts-append texts rest.texts nothing_yet, taken) refl

fault-within : (whole : Option (List ℕ)) (texts : List NumberedText) (fault : LineFault) → IfSome whole (λ bytes. (rest : ToldLines) × (lines_told 0 (lines bytes) ≡ behind_texts texts rest)) →
    take_texts nothing_yet texts ≡ Err fault → IfSome whole (λ bytes. auction_in bytes ≡ Err fault)
fault-within None texts fault is taken = tt
fault-within (Some bytes) texts fault is taken = fault-told bytes texts is.0 fault is.1 taken

-- before the first line
pub reading-none : (whole : Option (List ℕ)) (lines : NumberedValue) (so_far : SoFar) → lines ≡ record { count = 0; held = []; text = []; is_ended = true } → so_far ≡ nothing_yet →
    IsReading whole lines whole so_far
reading-none whole lines so_far first none = record {
  texts = [];
  read = read-none whole whole lines (rw first (held-none whole)) (rw first refl);
  taken = take_texts-none nothing_yet ∙ ap (λ (s : SoFar). let r : Result SoFar LineFault = Ok s in r) (sym none);
}
  where
    held-none : (left : Option (List ℕ)) → option_map (λ (bytes : List ℕ). bytes) left ≡ left
    held-none None = refl
    held-none (Some bytes) = refl

module _ (whole : Option (List ℕ)) (was : NumberedValue) (left : Option (List ℕ)) (so_far : SoFar) (reading : IsReading whole was left so_far) where
  -- no more is told: the end, or a line past a limit
  pub ends-there : (end : Result ℕ LineFault) → IfSome (told was left) (λ told. told ≡ record { texts = []; end = end }) →
      IfSome whole (λ bytes. auction_in bytes ≡ auction_at end so_far)
  ends-there end none = spelled-all whole reading.texts end so_far (read-all reading.texts was left whole end reading.read none) reading.taken

  module _ (now : NumberedValue) (left_now : Option (List ℕ)) where
    -- a read failed
    pub cut-off : unread now left_now ≡ unread was left → has_line_feed now.held ≡ false → IfSome whole (λ bytes. IsCutOff bytes left_now)
    cut-off same no_feed = each whole (read-cut_off reading.texts was left whole now left_now reading.read same no_feed)
      where
        each : (all : Option (List ℕ)) → IfSome all (λ bytes. AreCutOff bytes left_now reading.texts) → IfSome all (λ bytes. IsCutOff bytes left_now)
        each None cut = tt
        each (Some bytes) cut = record { texts = reading.texts; so_far = so_far; cut_off = cut; no_fault = reading.taken }

    module _ (step : IsStep was now left left_now) where
      -- the line went on, and a line feed ended it, or the end
      pub goes : (so_far' : SoFar) (more : Bool) → more ≡ now.is_ended → take_texts nothing_yet (reading.texts ++ texts_of now.count now.text) ≡ Ok so_far' → Goes whole now left_now so_far' (Ok more)
      goes so_far' true ended taken = record { texts = reading.texts ++ texts_of now.count now.text; read = read-line reading.texts was now left left_now step whole reading.read (sym ended); taken = taken }
      goes so_far' false ended taken = spelled-all whole (reading.texts ++ texts_of now.count now.text) (Ok now.count) so_far' (read-last reading.texts was now left left_now step whole reading.read (sym ended)) taken

      -- the line has a fault
      pub faulty : (fault : LineFault) → take_texts nothing_yet (reading.texts ++ texts_of now.count now.text) ≡ Err fault → IfSome whole (λ bytes. auction_in bytes ≡ Err fault)
      faulty fault taken = fault-within whole (reading.texts ++ texts_of now.count now.text) fault (read-through reading.texts was now left left_now step whole reading.read) taken

      -- the reading ended with the text of the line
      pub spoken : is_skipped now.text ≡ false → (number : ℕ) (text : List ℕ) (so_far' : SoFar) (end : ReadEnd) → number ≡ now.count → text ≡ now.text →
          Gives {A = Unit {0}} (λ _. so_far') (take_text so_far (record { number = number; text = text })) (Err end) → EndsBy whole left_now end
      spoken plain number text so_far' (Fault fault) same_number same_text gives =
          faulty fault (taken-spoken reading.texts so_far reading.taken now.count now.text plain ∙ (rw (same_number, same_text) at gives))
      spoken plain number text so_far' ReadFault same_number same_text gives = absurd gives
      spoken plain number text so_far' NoMemory same_number same_text gives = tt

pub not-last : (last ended : Bool) → last ≡ not ended → not last ≡ ended
not-last last true is = rw is refl
not-last last false is = rw is refl
