-- What a reader answers, by what it holds and what the source has left.
use Rattle.std.proofs.Common.{◌≡◌, ℕ, ◌+◌, ◌<◌, ◌≤◌, false, List, [], ◌++◌, length, take, drop, Option, Some, None, IfSome, refl, sym, ap, subst, ◌∙◌, ⊎_elim, append-nil, append_assoc, length-append, length-take-le, arith}
use Rattle.std.specs.List.{position_or_len}
use Rattle.std.specs.Option.{option_map}
use Rattle.std.proofs.lemmas.Bool.{cases_lt}
use Rattle.std.proofs.lemmas.List.{take-append-le, drop-append-le}
use Rattle.desk_io.specs.Lines.{Line, is_line_feed, without_return, ended_line, last_line, first_line, after_first_line}
use Rattle.desk_io.specs.NextLine.{GivesLine, EndsLine, TakesRest}
use Rattle.desk_io.specs.Reader.{ReaderValue}
use Rattle.desk_io.specs.WindowValue.{Fills}
use Rattle.desk_io.specs.declared.line_reader.LineGot.{LineGot}
use Rattle.desk_io.specs.declared.line_reader.LineGot.TheVariants.{Line as GotLine, End, TooLong, ReadFault}
use Rattle.desk_io.specs.declared.source.Got.TheVariants.{Bytes}
use Rattle.desk_io.proofs.LineLaws.{first_line-ended, first_line-last, after_first_line-last}
use Rattle.desk_io.proofs.LineFeeds.{feed-within, feed_in_front, feed_later, ended_by_end}

-- the size of the first line is how many bytes stand before the first line feed
first_line-size : (bytes : List ℕ) → (first_line bytes).size ≡ position_or_len is_line_feed bytes
first_line-size bytes = ⊎_elim
    (λ found. ap (λ (line : Line). line.size) (first_line-ended bytes found) ∙ length-take-le (position_or_len is_line_feed bytes) bytes (omega arith))
    (λ none. let inside = feed-within bytes in ap (λ (line : Line). line.size) (first_line-last bytes none) ∙ omega arith)
    (cases_lt (position_or_len is_line_feed bytes) (length bytes))

-- what stands behind the bytes held, where told
abbrev pub behind : List ℕ → Option (List ℕ) → Option (List ℕ)
behind held left = option_map (λ bytes. held ++ bytes) left

module _ (max : ℕ) (held : List ℕ) where
  ended_text : (bytes : List ℕ) → position_or_len is_line_feed held < length held → first_line (held ++ bytes) ≡ ended_line (take (position_or_len is_line_feed held) held)
  ended_text bytes found =
      let size = position_or_len is_line_feed held in
      let place : position_or_len is_line_feed (held ++ bytes) ≡ size = feed_in_front held bytes found in
      let longer : length (held ++ bytes) ≡ length held + length bytes = length-append held bytes in
      let front : take size (held ++ bytes) ≡ take size held = take-append-le size held bytes (omega arith) in
      first_line-ended (held ++ bytes) (omega arith) ∙ ap (λ (n : ℕ). ended_line (take n (held ++ bytes))) place ∙ ap ended_line front

  ended_rest : (bytes : List ℕ) → position_or_len is_line_feed held < length held → after_first_line (held ++ bytes) ≡ drop (position_or_len is_line_feed held + 1) held ++ bytes
  unfolding after_first_line
  ended_rest bytes found =
      let size = position_or_len is_line_feed held in
      ap (λ (n : ℕ). drop (n + 1) (held ++ bytes)) (feed_in_front held bytes found) ∙ drop-append-le (size + 1) held bytes (omega arith)

  -- a line feed stands among the bytes held
  pub gives_ended : (left : Option (List ℕ)) (held_now text : List ℕ) (size : ℕ) → size ≡ position_or_len is_line_feed held → size < length held → size ≤ max → text ≡ without_return (take size held) → held_now ≡ drop (size + 1) held → GivesLine max (behind held left) (behind held_now left) GotLine text
  gives_ended None held_now text size is found short text_is rest_is = (refl, tt)
  gives_ended (Some bytes) held_now text size is found short text_is rest_is =
      let feed : position_or_len is_line_feed held < length held = omega arith in
      let first : first_line (held ++ bytes) ≡ ended_line (take size held) = ended_text bytes feed ∙ ap (λ (n : ℕ). ended_line (take n held)) (sym is) in
      let rest : after_first_line (held ++ bytes) ≡ drop (size + 1) held ++ bytes = ended_rest bytes feed ∙ ap (λ (n : ℕ). drop (n + 1) held ++ bytes) (sym is) in
      let length_is : (first_line (held ++ bytes)).size ≡ size = ap (λ (line : Line). line.size) first ∙ length-take-le size held (omega arith) in (
        ap Some (ap (λ (now : List ℕ). now ++ bytes) rest_is ∙ sym rest),
        record {
          there = omega (arith, length-append held bytes);
          same = text_is ∙ sym (ap (λ (line : Line). line.text) first);
          short = omega arith;
        },
      )

  -- the source is at its end, and no line feed stands among the bytes held
  pub gives_last : (left : Option (List ℕ)) (held_now text : List ℕ) → IfSome left (λ bytes. bytes ≡ []) → length held ≤ position_or_len is_line_feed held → 0 < length held → length held ≤ max → text ≡ held → held_now ≡ [] → GivesLine max (behind held left) (behind held_now left) GotLine text
  gives_last None held_now text end none some short text_is rest_is = (refl, tt)
  gives_last (Some bytes) held_now text end none some short text_is rest_is =
      let all : held ++ bytes ≡ held = ap (λ (more : List ℕ). held ++ more) end ∙ append-nil held in
      let first : first_line (held ++ bytes) ≡ last_line held = ap first_line all ∙ first_line-last held none in
      let rest : after_first_line (held ++ bytes) ≡ [] = ap after_first_line all ∙ after_first_line-last held none in (
        ap Some (ap (λ (now : List ℕ). now ++ bytes) rest_is ∙ end ∙ sym rest),
        record {
          there = omega (arith, length-append held bytes);
          same = text_is ∙ sym (ap (λ (line : Line). line.text) first);
          short = let size_is : (first_line (held ++ bytes)).size ≡ length held = ap (λ (line : Line). line.size) first in omega arith;
        },
      )

  -- the source is at its end, and no byte is held
  pub gives_end : (left : Option (List ℕ)) (held_now text : List ℕ) → IfSome left (λ bytes. bytes ≡ []) → held ≡ [] → held_now ≡ [] → GivesLine max (behind held left) (behind held_now left) End text
  gives_end None held_now text end none none_now = (refl, tt)
  gives_end (Some bytes) held_now text end none none_now = (
    ap Some (ap (λ (now : List ℕ). now ++ bytes) (none_now ∙ sym none)),
    ap (λ (now : List ℕ). now ++ bytes) none ∙ end,
  )

  -- more bytes than allowed are held, and no line feed stands among so many
  pub gives_too_long : (left : Option (List ℕ)) (text : List ℕ) → max < position_or_len is_line_feed held → GivesLine max (behind held left) (behind held left) TooLong text
  gives_too_long None text long = (refl, tt)
  gives_too_long (Some bytes) text long = (refl, omega (arith, first_line-size (held ++ bytes), feed_later held bytes))

-- what is ahead stays the same where bytes are read
pub behind_filled : (left left_now : Option (List ℕ)) (held held_now : List ℕ) (n : ℕ) → Fills left left_now held held_now (Bytes n) → behind held_now left_now ≡ behind held left
behind_filled left left_now held held_now n fills =
    let read = take n fills.room in
    rw (fills.reads, fills.grew) (joined left_now held read)
  where
    joined : (rest : Option (List ℕ)) (held read : List ℕ) → option_map (λ bytes. held ++ read ++ bytes) rest ≡ option_map (λ bytes. held ++ bytes) (option_map (λ bytes. read ++ bytes) rest)
    joined None held read = refl
    joined (Some bytes) held read = ap Some (append_assoc held read bytes)

-- what bytes held at the end of the source answer
pub gives_rest : (max : ℕ) (held : List ℕ) (left left_now : Option (List ℕ)) (held_now text : List ℕ) (got : LineGot) → TakesRest held got → left_now ≡ left → IfSome left (λ bytes. bytes ≡ []) → length held ≤ position_or_len is_line_feed held → length held ≤ max → text ≡ held → held_now ≡ [] → GivesLine max (behind held left) (behind held_now left_now) got text
gives_rest max held left left_now held_now text got takes same end none short text_is rest_is =
    subst (λ (now : Option (List ℕ)). GivesLine max (behind held left) (behind held_now now) got text) (sym same) (unread got takes)
  where
    unread : (got : LineGot) → TakesRest held got → GivesLine max (behind held left) (behind held_now left) got text
    unread GotLine takes = gives_last max held left held_now text end none takes short text_is rest_is
    unread End takes = gives_end max held left held_now text end takes rest_is
    unread TooLong takes = absurd takes
    unread ReadFault takes = absurd takes

-- bytes held at the end of the source are a line that no line feed ended
pub ends_rest : (held : List ℕ) (left : Option (List ℕ)) (got : LineGot) (reader : ReaderValue) → TakesRest held got → IfSome left (λ bytes. bytes ≡ []) → length held ≤ position_or_len is_line_feed held → reader.is_ended ≡ false → EndsLine (behind held left) got reader
ends_rest held left GotLine reader takes end none ended = ended_by_end held left reader.is_ended none end ended
ends_rest held left End reader takes end none ended = tt
ends_rest held left TooLong reader takes end none ended = tt
ends_rest held left ReadFault reader takes end none ended = absurd takes

-- the same bytes are ahead under another name
pub from_start : (max_was max : ℕ) (was before after : Option (List ℕ)) (got : LineGot) (text : List ℕ) → max ≡ max_was → before ≡ was → GivesLine max before after got text → GivesLine max_was was after got text
from_start max_was max was before after got text same_max same gives =
    subst (λ (n : ℕ). GivesLine n was after got text) same_max (subst (λ (bytes : Option (List ℕ)). GivesLine max bytes after got text) same gives)
