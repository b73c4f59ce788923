-- The lines that were read so far of some bytes, for loops over the next lines.
use Rattle.std.proofs.Common.{◌≡◌, ℕ, ◌+◌, ◌<◌, true, false, inl, inr, List, [], ◌∷◌, ◌++◌, length, Option, Some, None, IfSome, Result, Ok, refl, sym, ap, ◌∙◌, append_assoc, append-nil}
use Rattle.std.specs.Option.{option_map}
use Rattle.desk_io.specs.Lines.{has_line_feed, lines, first_line, after_first_line}
use Rattle.desk_io.specs.NumberedLines.{is_skipped, NumberedText, ToldLines, texts_of, behind_texts, lines_told, unread, told, IsFirstOf, IsStep, AreEnded, AreRead, ReadSoFar, AreCutOff}
use Rattle.desk_io.specs.NumberedValue.{NumberedValue}
use Rattle.desk_io.specs.declared.numbered_lines.LineFault.{LineFault}
use Rattle.desk_io.proofs.LineCuts.{cut-some, cut-none}
use Rattle.desk_io.proofs.ToldLaws.{lines_told-nil, lines_told-line}

-- before the first line
pub read-none : (whole left : Option (List ℕ)) (now : NumberedValue) → unread now left ≡ whole → now.count ≡ 0 → ReadSoFar whole [] now left
read-none None left now same none = tt
read-none (Some bytes) left now same none = record {
  part = [];
  whole = rw same refl;
  ended = inl refl;
  tells = λ more. rw none refl;
}

behind-assoc : (texts more : List NumberedText) (told : ToldLines) → behind_texts texts (behind_texts more told) ≡ behind_texts (texts ++ more) told
behind-assoc texts more told = ap (λ (all : List NumberedText). let t : ToldLines = record { texts = all; end = told.end } in t) (sym (append_assoc texts more told.texts))

behind-none : (texts : List NumberedText) (end : Result ℕ LineFault) → behind_texts texts (record { texts = []; end = end }) ≡ record { texts = texts; end = end }
behind-none texts end = ap (λ (all : List NumberedText). let t : ToldLines = record { texts = all; end = end } in t) (append-nil texts)

feed-assoc : (part front more : List ℕ) → part ++ (front ++ 10 ∷ more) ≡ part ++ (front ++ 10 ∷ []) ++ more
feed-assoc part front more = ap (λ bytes. part ++ bytes) (sym (append_assoc front (10 ∷ []) more)) ∙ sym (append_assoc part (front ++ 10 ∷ []) more)

-- a text that is not passed over, and one that is
pub texts_of-spoken : (number : ℕ) (text : List ℕ) → is_skipped text ≡ false → texts_of number text ≡ record { number = number; text = text } ∷ []
texts_of-spoken number text spoken = rw spoken refl

pub texts_of-skipped : (number : ℕ) (text : List ℕ) → is_skipped text ≡ true → texts_of number text ≡ []
texts_of-skipped number text skipped = rw skipped refl

whole-of : (bytes part rest : List ℕ) (ahead : Option (List ℕ)) → Some bytes ≡ option_map (λ more. part ++ more) ahead → ahead ≡ Some rest → bytes ≡ part ++ rest
whole-of bytes part rest ahead whole is = let same : Some bytes ≡ Some (part ++ rest) = whole ∙ ap (option_map (λ more. part ++ more)) is in cc

module _ (bytes rest : List ℕ) (texts : List NumberedText) (was now : NumberedValue) (left left_now : Option (List ℕ)) (ahead : unread was left ≡ Some rest)
    (read : AreRead bytes texts was left) (next : IsFirstOf rest was.count now) (counted : now.count ≡ was.count + 1) (taken : unread now left_now ≡ Some (after_first_line rest)) where
  whole-is : bytes ≡ read.part ++ rest
  whole-is = whole-of bytes read.part rest (unread was left) read.whole ahead

  told-line : (all : List ℕ) → 0 < length all → first_line all ≡ first_line rest →
      lines_told was.count (lines all) ≡ behind_texts (texts_of now.count now.text) (lines_told now.count (lines (after_first_line all)))
  told-line all some first = lines_told-line was.count all some (rw first next.fits) ∙ rw (first, next.text, counted) refl

  -- the next line tells its text behind those that were read, whatever stands behind it
  told-through : lines_told 0 (lines bytes) ≡ behind_texts (texts ++ texts_of now.count now.text) (lines_told now.count (lines (after_first_line rest)))
  told-through =
      ap (λ (all : List ℕ). lines_told 0 (lines all)) whole-is ∙ read.tells rest ∙ ap (behind_texts texts) (told-line rest next.some refl)
      ∙ behind-assoc texts (texts_of now.count now.text) (lines_told now.count (lines (after_first_line rest)))

  -- the bytes of a line with its line feed are put behind those that were read
  through-feed : now.is_ended ≡ true → AreRead bytes (texts ++ texts_of now.count now.text) now left_now
  through-feed ended =
      let cut = cut-some rest (sym next.ended ∙ ended) in
      let front = cut.front in
      record {
        part = read.part ++ (front ++ 10 ∷ []);
        whole = rw taken (ap Some (whole-is ∙ ap (λ (more : List ℕ). read.part ++ more) cut.whole ∙ feed-assoc read.part front (after_first_line rest)));
        ended = inr (read.part ++ front, sym (append_assoc read.part front (10 ∷ [])));
        tells = λ more.
            ap (λ (all : List ℕ). lines_told 0 (lines all)) (sym (feed-assoc read.part front more)) ∙ read.tells (front ++ 10 ∷ more)
            ∙ ap (behind_texts texts) (told-line (front ++ 10 ∷ more) (cut.some more) (cut.first more) ∙ ap (λ (all : List ℕ). behind_texts (texts_of now.count now.text) (lines_told now.count (lines all))) (cut.rest more))
            ∙ behind-assoc texts (texts_of now.count now.text) (lines_told now.count (lines more));
      }

  -- behind a line that no line feed ended nothing is told
  told-last : now.is_ended ≡ false → lines_told 0 (lines bytes) ≡ record { texts = texts ++ texts_of now.count now.text; end = Ok now.count }
  told-last last =
      let none : after_first_line rest ≡ [] = cut-none rest (sym next.ended ∙ last) in
      told-through ∙ ap (λ (all : List ℕ). behind_texts (texts ++ texts_of now.count now.text) (lines_told now.count (lines all))) none
      ∙ ap (behind_texts (texts ++ texts_of now.count now.text)) (lines_told-nil now.count) ∙ behind-none (texts ++ texts_of now.count now.text) (Ok now.count)

-- the bytes ahead, where some are told at the start
ahead-some : (bytes part : List ℕ) (ahead : Option (List ℕ)) → Some bytes ≡ option_map (λ more. part ++ more) ahead → (rest : List ℕ) × (ahead ≡ Some rest)
ahead-some bytes part None whole = absurd (cc)
ahead-some bytes part (Some rest) whole = (rest, refl)

module _ (texts : List NumberedText) (was now : NumberedValue) (left left_now : Option (List ℕ)) (step : IsStep was now left left_now) where
  next-line : (bytes : List ℕ) (read : AreRead bytes texts was left) → (rest : List ℕ) × (unread was left ≡ Some rest) × IsFirstOf rest was.count now × (unread now left_now ≡ Some (after_first_line rest))
  next-line bytes read =
      let some = ahead-some bytes read.part (unread was left) read.whole in
      (some.0, some.1, rw some.1 at step.first, step.rest ∙ ap (option_map after_first_line) some.1)

  -- the lines read go on through a line feed
  pub read-line : (whole : Option (List ℕ)) → ReadSoFar whole texts was left → now.is_ended ≡ true → ReadSoFar whole (texts ++ texts_of now.count now.text) now left_now
  read-line None read ended = tt
  read-line (Some bytes) read ended =
      let some = next-line bytes read in
      through-feed bytes some.0 texts was now left left_now some.1 read some.2 step.counted some.3 ended

  -- a line that no line feed ended is the last that is told
  pub read-last : (whole : Option (List ℕ)) → ReadSoFar whole texts was left → now.is_ended ≡ false →
      IfSome whole (λ bytes. lines_told 0 (lines bytes) ≡ record { texts = texts ++ texts_of now.count now.text; end = Ok now.count })
  read-last None read last = tt
  read-last (Some bytes) read last =
      let some = next-line bytes read in
      told-last bytes some.0 texts was now left left_now some.1 read some.2 step.counted some.3 last

  -- however the line ended, its text is told behind those that were read
  pub read-through : (whole : Option (List ℕ)) → ReadSoFar whole texts was left →
      IfSome whole (λ bytes. (rest : ToldLines) × (lines_told 0 (lines bytes) ≡ behind_texts (texts ++ texts_of now.count now.text) rest))
  read-through None read = tt
  read-through (Some bytes) read =
      let some = next-line bytes read in
      (lines_told now.count (lines (after_first_line some.0)), told-through bytes some.0 texts was now left left_now some.1 read some.2 step.counted some.3)

joined : (part held : List ℕ) (left : Option (List ℕ)) → option_map (λ more. part ++ more) (option_map (λ more. held ++ more) left) ≡ option_map (λ more. part ++ (held ++ more)) left
joined part held None = refl
joined part held (Some more) = refl

module _ (texts : List NumberedText) (now : NumberedValue) (left : Option (List ℕ)) where
  -- what was read is the first of what is told
  pub read-first : (whole : Option (List ℕ)) → ReadSoFar whole texts now left → IfSome whole (λ bytes. (rest : ToldLines) × (lines_told 0 (lines bytes) ≡ behind_texts texts rest))
  read-first None read = tt
  read-first (Some bytes) read =
      let some = ahead-some bytes read.part (unread now left) read.whole in
      (lines_told now.count (lines some.0), ap (λ (all : List ℕ). lines_told 0 (lines all)) (whole-of bytes read.part some.0 (unread now left) read.whole some.1) ∙ read.tells some.0)

  -- where nothing more is told, it is all
  pub read-all : (whole : Option (List ℕ)) (end : Result ℕ LineFault) → ReadSoFar whole texts now left → IfSome (told now left) (λ told. told ≡ record { texts = []; end = end }) →
      IfSome whole (λ bytes. lines_told 0 (lines bytes) ≡ record { texts = texts; end = end })
  read-all None end read none = tt
  read-all (Some bytes) end read none =
      let some = ahead-some bytes read.part (unread now left) read.whole in
      let ends : lines_told now.count (lines some.0) ≡ record { texts = []; end = end } = rw some.1 at none in
      ap (λ (all : List ℕ). lines_told 0 (lines all)) (whole-of bytes read.part some.0 (unread now left) read.whole some.1) ∙ read.tells some.0 ∙ ap (behind_texts texts) ends ∙ behind-none texts end

  -- where a read failed, the bytes are cut off there
  pub read-cut_off : (whole : Option (List ℕ)) (later : NumberedValue) (left_now : Option (List ℕ)) → ReadSoFar whole texts now left → unread later left_now ≡ unread now left →
      has_line_feed later.held ≡ false → IfSome whole (λ bytes. AreCutOff bytes left_now texts)
  read-cut_off None later left_now read same no_feed = tt
  read-cut_off (Some bytes) later left_now read same no_feed = record {
    part = read.part;
    rest = later.held;
    read = read.whole ∙ ap (option_map (λ more. read.part ++ more)) (sym same) ∙ joined read.part later.held left_now;
    ended = read.ended;
    no_feed = no_feed;
    count = now.count;
    told = ap (λ (all : List ℕ). lines_told 0 (lines all)) (sym (append-nil read.part)) ∙ read.tells [] ∙ ap (behind_texts texts) (lines_told-nil now.count) ∙ behind-none texts (Ok now.count);
  }

nothing_behind : (held bytes : List ℕ) → held ++ bytes ≡ [] → bytes ≡ []
nothing_behind [] bytes none = none
nothing_behind (byte ∷ held) bytes none = absurd (cc)

-- behind a line that no line feed ended nothing is left
pub step-last : (was now : NumberedValue) (left left_now : Option (List ℕ)) → IsStep was now left left_now → now.is_ended ≡ false → IfSome left_now (λ bytes. bytes ≡ [])
step-last was now left None step last = tt
step-last was now left (Some bytes) step last = go (unread was left) step.first step.rest
  where
    go : (ahead : Option (List ℕ)) → IfSome ahead (λ all. IsFirstOf all was.count now) → Some (now.held ++ bytes) ≡ option_map after_first_line ahead → bytes ≡ []
    go None first rest = absurd (cc)
    go (Some all) first rest =
        let behind : now.held ++ bytes ≡ after_first_line all = cc in
        nothing_behind now.held bytes (behind ∙ cut-none all (sym first.ended ∙ last))
