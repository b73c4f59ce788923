-- The bytes held as they grow by those read, and what comes of them at each end of the reading.
use Rattle.std.proofs.Common.{◌≡◌, ◌≢◌, ℕ, ◌+◌, ◌<◌, ◌≤◌, List, [], ◌++◌, length, take, drop, min, Option, Some, None, IfSome, Result, Ok, Err, refl, sym, ap, subst, ◌∙◌, arith, append_assoc, append-nil, length-append, length-take, take-append-drop, take_all, ⊎_elim}
use Rattle.std.proofs.lemmas.Bool.{cases_lt}
use Rattle.std.specs.Option.{option_map}
use Rattle.desk_io.specs.Reading.{Taken}
use Rattle.desk_io.specs.WindowValue.{WindowValue, Fills}
use Rattle.desk_io.specs.declared.source.Got.{Got}
use Rattle.desk_io.specs.declared.source.Got.TheVariants.{Bytes, End, Failed}
use Rattle.httparse.specs.declared.spans.HeaderSpan.{HeaderSpan}
use Rattle.httparse.specs.declared.spans.RequestSpans.{RequestSpans}
use Rattle.httparse.specs.Spans.{IsRequestWithin}
use Rattle.http_api.specs.declared.limits.TheConstants.{HEAD_BYTES_MAX}
use Rattle.http_api.specs.declared.next_message.NextMessage.{NextMessage}
use Rattle.http_api.specs.declared.next_message.NextMessage.TheVariants as next
use Rattle.http_api.specs.HeadAt.{head_at}
use Rattle.http_api.specs.HeadEnd.{head_length}
use Rattle.http_api.specs.Held.{EndsAs, IsFaulty, IsEnding, IsSized, Grows, HoldsHead, IsHeadNext, ReadsHead, IsUpTo, CutsMessage}
use Rattle.http_api.specs.Message.{Whole, IsMessage, HoldsNoMessage}
use Rattle.http_api.proofs.HeadEnds.{head_length-append, head_length-within, head_length-blank}
use Rattle.http_api.proofs.Messages.{no_message-short, no_message-awaited, holds-more, take-more, whole-message, whole-within}

-- ---- bytes read

taken-none : (left : Option (List ℕ)) → Taken left left []
taken-none None = refl
taken-none (Some bytes) = refl

taken-more : (left between left_now : Option (List ℕ)) (first second : List ℕ) → Taken left between first → Taken between left_now second → Taken left left_now (first ++ second)
taken-more left between left_now first second one two = one ∙ ap (option_map (λ (rest : List ℕ). first ++ rest)) two ∙ joined left_now
  where
    joined : (left : Option (List ℕ)) → option_map (λ (rest : List ℕ). first ++ rest) (option_map (λ (rest : List ℕ). second ++ rest) left) ≡ option_map (λ (rest : List ℕ). (first ++ second) ++ rest) left
    joined None = refl
    joined (Some bytes) = ap Some (sym (append_assoc first second bytes))

pub grows-more : (left between left_now : Option (List ℕ)) (held held_between held_now : List ℕ) → Grows left between held held_between → Grows between left_now held_between held_now → Grows left left_now held held_now
grows-more left between left_now held held_between held_now one two = record {
  read = one.read ++ two.read;
  taken = taken-more left between left_now one.read two.read one.taken two.taken;
  grew = two.grew ∙ ap (λ (bytes : List ℕ). bytes ++ two.read) one.grew ∙ append_assoc held one.read two.read;
}

-- one read more
pub grows-filled : (left left_now : Option (List ℕ)) (held held_now : List ℕ) (got : Got) → Fills left left_now held held_now got → Grows left left_now held held_now
grows-filled left left_now held held_now (Bytes n) fills = record { read = take n fills.room; taken = fills.reads; grew = fills.grew }
grows-filled left left_now held held_now End fills = record { read = []; taken = sym fills.reads.0 ∙ taken-none left_now; grew = fills.grew }
grows-filled left left_now held held_now Failed fills = record { read = []; taken = sym fills.reads ∙ taken-none left_now; grew = fills.grew }

-- a read that gave bytes made them more
pub longer-filled : (left left_now : Option (List ℕ)) (held held_now : List ℕ) (n : ℕ) → Fills left left_now held held_now (Bytes n) → length held < length held_now
longer-filled left left_now held held_now n fills =
    omega (arith, fills.within.0, fills.within.1, ap (length {A = ℕ}) fills.grew, length-append held (take n fills.room), length-take n fills.room)

-- at the end nothing is left
pub left-none : (left left_now : Option (List ℕ)) (held held_now : List ℕ) → Fills left left_now held held_now End → IfSome left_now (λ bytes. bytes ≡ [])
left-none left left_now held held_now fills = subst (λ (now : Option (List ℕ)). IfSome now (λ bytes. bytes ≡ [])) (sym fills.reads.0) fills.reads.1

-- ---- where no head is held yet

-- a head among the first bytes is held
pub holds-head : (held : List ℕ) (size : ℕ) → Some size ≡ head_length (take HEAD_BYTES_MAX held) → HoldsHead held size
holds-head held size is =
    let within = head_length-within (take HEAD_BYTES_MAX held) size (sym is) in
    record {
      ends = ap head_length (sym (take-append-drop HEAD_BYTES_MAX held)) ∙ head_length-append (take HEAD_BYTES_MAX held) (drop HEAD_BYTES_MAX held) size (sym is);
      fits = omega (arith, within.1, length-take HEAD_BYTES_MAX held);
    }

pub held-short : (held : List ℕ) → length (take HEAD_BYTES_MAX held) ≢ HEAD_BYTES_MAX → length held < HEAD_BYTES_MAX
held-short held short = omega (arith, length-take HEAD_BYTES_MAX held)

-- no message, where the first bytes have no head and are not as many as one may have
pub no_message-held : (held held_now : List ℕ) → None ≡ head_length (take HEAD_BYTES_MAX held) → length (take HEAD_BYTES_MAX held) ≢ HEAD_BYTES_MAX → held_now ≡ held ++ [] → HoldsNoMessage held_now
no_message-held held held_now none short same =
    let below = held-short held short in
    let all : take HEAD_BYTES_MAX held ≡ held = take_all HEAD_BYTES_MAX held (omega arith) in
    let now : held_now ≡ held = same ∙ append-nil held in
    subst HoldsNoMessage (sym now) (no_message-short held below (ap head_length (sym all) ∙ sym none))

pub ending-end : (bytes : List ℕ) (left : Option (List ℕ)) (now : WindowValue) (got : NextMessage) → HoldsNoMessage bytes → IfSome left (λ rest. rest ≡ []) → EndsAs bytes got → IsEnding bytes left now got
ending-end bytes left now next.Whole none end ending = ending
ending-end bytes left now (next.Faulty bodiless) none end ending = absurd ending
ending-end bytes left now next.Ended none end ending = (none, ending, end)
ending-end bytes left now next.CutShort none end ending = (none, ending, end)
ending-end bytes left now next.ReadFault none end ending = absurd ending

-- bytes that end the session were cut
pub ending-faulty : (ahead : List ℕ) (left : Option (List ℕ)) (now : WindowValue) (got : NextMessage) (size : ℕ) → now.cut ≡ take size ahead → now.held ≡ drop size ahead → IsFaulty (take size ahead) got → IsEnding ahead left now got
ending-faulty ahead left now next.Whole size cut held faulty = faulty
ending-faulty ahead left now (next.Faulty bodiless) size cut held faulty =
    (sym (take-append-drop size ahead) ∙ ap (λ (rest : List ℕ). take size ahead ++ rest) (sym held) ∙ ap (λ (front : List ℕ). front ++ now.held) (sym cut), subst (λ (front : List ℕ). IsFaulty front (next.Faulty bodiless)) (sym cut) faulty)
ending-faulty ahead left now next.Ended size cut held faulty = absurd faulty
ending-faulty ahead left now next.CutShort size cut held faulty = absurd faulty
ending-faulty ahead left now next.ReadFault size cut held faulty = absurd faulty

-- what was found of the bytes held is found of those read
pub reads-head : (left left_now : Option (List ℕ)) (held held_now : List ℕ) (now : WindowValue) (got : Result ℕ NextMessage) → Grows left left_now held held_now → IsHeadNext held_now left_now now got → ReadsHead left left_now held now got
reads-head left left_now held held_now now got grows is = record {
  read = grows.read;
  taken = grows.taken;
  next = subst (λ (ahead : List ℕ). IsHeadNext ahead left_now now got) grows.grew is;
}

-- ---- where a head is held

module _ (left between left_now : Option (List ℕ)) (held : List ℕ) (at_head now : WindowValue) (fields : List HeaderSpan) (size : ℕ) (head : ReadsHead left between held at_head (Ok size)) where
  pub head-in : HoldsHead at_head.held size
  head-in = subst (λ (bytes : List ℕ). HoldsHead bytes size) (sym head.next.0) head.next.1

  grown : Grows left between held at_head.held
  grown = record { read = head.read; taken = head.taken; grew = head.next.0 }

  module _ (parts : RequestSpans) (body : ℕ) (sized : IsSized (take size at_head.held) fields parts body) (later : List ℕ) (grows : Grows between left_now at_head.held later) where
    all-grown : Grows left left_now held later
    all-grown = grows-more left between left_now held at_head.held later grown grows

    head-later : HoldsHead later size
    head-later = subst (λ (bytes : List ℕ). HoldsHead bytes size) (sym grows.grew) (holds-more at_head.held grows.read size head-in)

    front-later : take size at_head.held ≡ take size later
    front-later = sym (ap (take size) grows.grew ∙ take-more at_head.held grows.read size head-in)

    sized-later : IsSized (take size later) fields parts body
    sized-later = subst (λ (bytes : List ℕ). IsSized bytes fields parts body) front-later sized

    -- the source ended or failed before all of its body came
    ending-up_to : (now : WindowValue) (got : NextMessage) → IsUpTo (size + body) left_now later (Err got) → IsEnding later left_now now got
    ending-up_to now next.Whole up_to = up_to
    ending-up_to now (next.Faulty bodiless) up_to = absurd up_to
    ending-up_to now next.Ended up_to = absurd up_to
    ending-up_to now next.CutShort up_to =
        (no_message-awaited later size body _ head-later sized-later.told sized-later.sized up_to.0, λ blank. head_length-blank later size head-later.ends blank, up_to.1)
    ending-up_to now next.ReadFault up_to = no_message-awaited later size body _ head-later sized-later.told sized-later.sized up_to

    pub cuts-short : (got : NextMessage) → IsUpTo (size + body) left_now later (Err got) → CutsMessage left left_now held now fields (Err got)
    cuts-short got up_to = record {
      read = all-grown.read;
      taken = all-grown.taken;
      next = subst (λ (ahead : List ℕ). IsEnding ahead left_now now got) all-grown.grew (ending-up_to now got up_to);
    }

    -- all of it is held
    pub cuts-whole : size + body ≤ length later → now.cut ≡ take (size + body) later → now.held ≡ drop (size + body) later → CutsMessage left left_now held now fields (Ok parts)
    cuts-whole inside cut rest = record {
      read = all-grown.read;
      taken = all-grown.taken;
      next = (
        sym all-grown.grew ∙ sym (take-append-drop (size + body) later) ∙ ap (λ (behind : List ℕ). take (size + body) later ++ behind) (sym rest) ∙ ap (λ (front : List ℕ). front ++ now.held) (sym cut),
        subst (λ (front : List ℕ). IsMessage front (Whole (head_at front parts fields) (drop parts.len front))) (sym cut) (whole-message later size body parts fields sized-later inside),
        subst (λ (front : List ℕ). IsRequestWithin front fields parts) (sym cut) (whole-within later size body parts fields sized-later inside),
      );
    }

-- ---- what a reader answers

-- the first bytes of a list that are at most so many
pub front-is : (held bytes : List ℕ) (n k : ℕ) → held ≡ bytes → n ≡ min (length held) k → take n held ≡ take k bytes
front-is held bytes n k same is = ⊎_elim
    (λ short. take_all n held (omega arith) ∙ same ∙ sym (take_all k bytes (omega (arith, ap (length {A = ℕ}) same))))
    (λ long. let all : n ≡ k = omega arith in ap (λ (m : ℕ). take m held) all ∙ ap (take k) same)
    (cases_lt (length held) k)
