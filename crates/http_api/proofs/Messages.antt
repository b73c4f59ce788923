-- The message that stands in front of bytes, by its head and the length of its body; and where none does.
use Rattle.std.proofs.Common.{◌≡◌, ◌≢◌, ℕ, ◌+◌, ◌-◌, ◌<◌, ◌≤◌, inl, inr, Bool, true, false, not, nat_lt, codes, List, [], ◌∷◌, ◌++◌, length, take, drop, map, All, Some, None, Result, Ok, Err, refl, sym, ap, subst, ◌∙◌, arith, append_assoc, length-append, length-take, length-drop, take-append-drop, take-take, ltb-false}
use Rattle.std.proofs.lemmas.List.{drop_all, drop-take, length-take-le, take_at, take-append-le}
use Rattle.std.proofs.lemmas.List.Elements.{All-head, All-tail}
use Rattle.std.proofs.lemmas.Option.{same_Some, none-some}
use Rattle.httparse.specs.Grammar.{ReadsRequest}
use Rattle.httparse.specs.Outcome.{IfComplete}
use Rattle.httparse.specs.Spans.{span_bytes, IsWithin, IsHeaderWithin, header_bytes, IsRequestWithin, FindsRequest}
use Rattle.httparse.specs.declared.Error.{Error}
use Rattle.httparse.specs.declared.Status.{Status}
use Rattle.httparse.specs.declared.Status.TheVariants.{Complete, Partial}
use Rattle.httparse.specs.declared.spans.HeaderSpan.{HeaderSpan}
use Rattle.httparse.specs.declared.spans.RequestSpans.{RequestSpans}
use Rattle.httparse.specs.declared.spans.Span.{Span}
use Rattle.httparse.proofs.GrammarLemmas.{request_unique}
use Rattle.http_api.specs.declared.judgement.Judgement.{Judgement}
use Rattle.http_api.specs.declared.judgement.Judgement.TheVariants.{NotBuilt}
use Rattle.http_api.specs.declared.limits.TheConstants.{HEAD_BYTES_MAX, FIELDS_MAX, BODY_BYTES_MAX}
use Rattle.http_api.specs.declared.next_message.NextMessage.TheVariants as next
use Rattle.http_api.specs.declared.reader.TheConstants.{FIELD_PLACES}
use Rattle.http_api.specs.Fields.{has_field, are_lengths, lengths_of, length_told}
use Rattle.http_api.specs.HeadAt.{head_at}
use Rattle.http_api.specs.HeadEnd.{head_length}
use Rattle.http_api.specs.HeadValue.{HeadValue, told_by}
use Rattle.http_api.specs.Held.{IsParsed, IsSized, IsFaulty, HoldsHead}
use Rattle.http_api.specs.Judging.{first_made, unless_judged, body_length}
use Rattle.http_api.specs.Message.{Message, Faulty, Whole, IsHead, IsUnreadable, IsToldHead, IsMessage, HoldsNoMessage, is_bodiless}
use Rattle.http_api.proofs.FieldRoom.{read-size}
use Rattle.http_api.proofs.HeadEnds.{head_length-append, head_length-part, head_length-within}

-- ---- the length of a body

judged : (a b c d : Bool) (made : Judgement) (n k : ℕ) → unless_judged (first_made ((a, made) ∷ (b, made) ∷ (c, made) ∷ (d, made) ∷ [])) n ≡ Some k → (d ≡ false) × (n ≡ k)
unfolding first_made
judged true b c d made n k is = absurd (none-some k is)
judged false true c d made n k is = absurd (none-some k is)
judged false false true d made n k is = absurd (none-some k is)
judged false false false true made n k is = absurd (none-some k is)
judged false false false false made n k is = (refl, same_Some n k is)

pub body-within : (head : HeadValue) (k : ℕ) → body_length head ≡ Some k → k ≤ BODY_BYTES_MAX
unfolding body_length
body-within head k is =
    let told = length_told (lengths_of head) in
    let judgement = judged (nat_lt FIELDS_MAX (length head.fields)) (has_field (codes "transfer-encoding") head) (not (are_lengths (lengths_of head))) (nat_lt BODY_BYTES_MAX told) NotBuilt told k is in
    let low = ltb-false BODY_BYTES_MAX told judgement.0 in
    omega arith

-- ---- parts that stand in the first bytes

span-front : (n : ℕ) (bytes : List ℕ) (s : Span) → IsWithin n s → span_bytes (take n bytes) s ≡ span_bytes bytes s
span-front n bytes s within =
    let whole : s.start + (n - s.start) ≡ n = omega (arith, within.0, within.1) in
    let inside : s.end - s.start ≤ n - s.start = omega (arith, within.0, within.1) in
    ap (λ (k : ℕ). take (s.end - s.start) (drop s.start (take k bytes))) (sym whole)
    ∙ ap (take (s.end - s.start)) (drop-take s.start (n - s.start) bytes)
    ∙ take-take (s.end - s.start) (n - s.start) (drop s.start bytes) inside

header-front : (n : ℕ) (bytes : List ℕ) (h : HeaderSpan) → IsHeaderWithin n h → header_bytes (take n bytes) h ≡ header_bytes bytes h
header-front n bytes h within = λ i. (span-front n bytes h.name within.0 i, span-front n bytes h.value within.1 i)

fields-front : (n : ℕ) (bytes : List ℕ) (fields : List HeaderSpan) → All (IsHeaderWithin n) fields → map (header_bytes (take n bytes)) fields ≡ map (header_bytes bytes) fields
fields-front n bytes [] all = refl
fields-front n bytes (field ∷ fields) all = λ i.
    header-front n bytes field (All-head (IsHeaderWithin n) field fields all) i ∷ fields-front n bytes fields (All-tail (IsHeaderWithin n) field fields all) i

head-front : (n : ℕ) (bytes : List ℕ) (parts : RequestSpans) (fields : List HeaderSpan) → IsRequestWithin (take n bytes) fields parts → parts.len ≡ n →
    head_at (take n bytes) parts fields ≡ head_at bytes parts fields
head-front n bytes parts fields within len =
    let method : IsWithin n parts.method = subst (λ (k : ℕ). IsWithin k parts.method) len within.method in
    let path : IsWithin n parts.path = subst (λ (k : ℕ). IsWithin k parts.path) len within.path in
    let headers : All (IsHeaderWithin n) (take parts.headers fields) = subst (λ (k : ℕ). All (IsHeaderWithin k) (take parts.headers fields)) len within.section.headers_fit in
    λ i. record {
      method = span-front n bytes parts.method method i;
      target = span-front n bytes parts.path path i;
      minor = parts.version;
      fields = fields-front n bytes (take parts.headers fields) headers i;
    }

-- more bytes behind them leave the parts where they are
within-longer : (n : ℕ) (bytes : List ℕ) (parts : RequestSpans) (fields : List HeaderSpan) → IsRequestWithin (take n bytes) fields parts → IsRequestWithin bytes fields parts
within-longer n bytes parts fields within = record {
  method = within.method;
  path = within.path;
  version = within.version;
  section = record {
    len_fits = omega (arith, within.section.len_fits, length-take n bytes);
    count_fits = within.section.count_fits;
    headers_fit = within.section.headers_fit;
  };
}

-- ---- what a parser answers

pub told-from_parsed : (bytes : List ℕ) (fields : List HeaderSpan) (parts : RequestSpans) → IsHead bytes → IsParsed bytes fields parts → IsToldHead bytes (head_at bytes parts fields)
told-from_parsed bytes fields parts whole parsed =
    let rest : drop parts.len bytes ≡ [] = drop_all parts.len bytes (omega (arith, parsed.whole)) in
    let at = parsed.at in
    record {
      whole = whole;
      read = parsed.head;
      reads = subst (λ (behind : List ℕ). ReadsRequest bytes parsed.head behind) rest at.reads;
      tells = λ i. record { method = at.method i; target = at.path i; minor = at.version i; fields = at.fields i };
    }

-- where no head of the whole bytes is answered, there is none
pub unreadable : (bytes : List ℕ) (fields : List HeaderSpan) (got : Result (Status RequestSpans) Error) → length bytes ≤ HEAD_BYTES_MAX → FindsRequest bytes FIELD_PLACES fields got →
    IfComplete got (λ parts. parts.len ≢ length bytes) → IsUnreadable bytes
unreadable bytes fields (Ok (Complete parts)) fits finds other head reads =
    let size = read-size bytes head reads in
    let at = finds head [] reads (omega (arith, size.1)) in
    other (at.len ∙ sym size.0)
unreadable bytes fields (Ok Partial) fits finds other head reads =
    let size = read-size bytes head reads in
    absurd (finds head [] reads (omega (arith, size.1)))
unreadable bytes fields (Err error) fits finds other head reads =
    let size = read-size bytes head reads in
    absurd (finds head [] reads (omega (arith, size.1)))

-- ---- messages in front

same-told : (bytes : List ℕ) (a b : HeadValue) → IsToldHead bytes a → IsToldHead bytes b → a ≡ b
same-told bytes a b one two =
    let same = request_unique bytes one.read two.read [] [] one.reads two.reads in
    one.tells ∙ ap told_by same.0 ∙ sym two.tells

-- a head in front of bytes has the length that is found there
head-of_front : (bytes front rest : List ℕ) → bytes ≡ front ++ rest → IsHead front → head_length bytes ≡ Some (length front)
head-of_front bytes front rest split head = ap head_length split ∙ head_length-append front rest (length front) head.ends

-- no head ends in bytes that are fewer than a head may have
pub no_message-short : (bytes : List ℕ) → length bytes < HEAD_BYTES_MAX → head_length bytes ≡ None → HoldsNoMessage bytes
no_message-short bytes short none = λ stretch rest message split is. go stretch rest message split is
  where
    unended : (front rest : List ℕ) → bytes ≡ front ++ rest → IsHead front → ⊥
    unended front rest split head = none-some (length front) (sym none ∙ head-of_front bytes front rest split head)

    go : (stretch rest : List ℕ) (message : Message) → bytes ≡ stretch ++ rest → IsMessage stretch message → ⊥
    go stretch rest (Faulty None) split (inl no_end) = omega (arith, ap (length {A = ℕ}) split, length-append stretch rest, no_end.long)
    go stretch rest (Faulty None) split (inr unread) = unended stretch rest split unread.0
    go stretch rest (Faulty (Some head)) split told = unended stretch rest split told.0.whole
    go stretch rest (Whole head body) split whole =
        unended whole.front (body ++ rest) (split ∙ ap (λ (bytes : List ℕ). bytes ++ rest) whole.split ∙ append_assoc whole.front body rest) whole.told.whole

module _ (bytes : List ℕ) (size body : ℕ) (head : HeadValue) (holds : HoldsHead bytes size) (told : IsToldHead (take size bytes) head) (sized : body_length head ≡ Some body) where
  same-front : (front rest : List ℕ) → bytes ≡ front ++ rest → IsHead front → (length front ≡ size) × (front ≡ take size bytes)
  same-front front rest split is =
      let same : length front ≡ size = same_Some (length front) size (sym (head-of_front bytes front rest split is) ∙ holds.ends) in
      (same, sym (ap (take size) split ∙ take_at front rest size same))

  same-head : (front rest : List ℕ) (other : HeadValue) → bytes ≡ front ++ rest → IsToldHead front other → other ≡ head
  same-head front rest other split is =
      let same = same-front front rest split is.whole in
      same-told (take size bytes) other head (subst (λ (part : List ℕ). IsToldHead part other) same.1 is) told

  -- nor does a message stand in front of bytes that hold a head and less than its body
  awaited : length bytes < size + body → (stretch rest : List ℕ) (message : Message) → bytes ≡ stretch ++ rest → IsMessage stretch message → ⊥
  awaited short stretch rest (Faulty None) split (inl no_end) =
      none-some size (sym no_end.endless ∙ head_length-part stretch rest size (sym (ap head_length split) ∙ holds.ends) (omega (arith, no_end.long, holds.fits)))
  awaited short stretch rest (Faulty None) split (inr unread) =
      let same = same-front stretch rest split unread.0 in
      unread.1 told.read (subst (λ (part : List ℕ). ReadsRequest part told.read []) (sym same.1) told.reads)
  awaited short stretch rest (Faulty (Some other)) split is =
      none-some body (sym is.1 ∙ ap body_length (same-head stretch rest other split is.0) ∙ sized)
  awaited short stretch rest (Whole other text) split is =
      let parts : bytes ≡ is.front ++ (text ++ rest) = split ∙ ap (λ (bytes : List ℕ). bytes ++ rest) is.split ∙ append_assoc is.front text rest in
      let same = same-front is.front (text ++ rest) parts is.told.whole in
      let length_is : length text ≡ body = same_Some (length text) body (sym is.sized ∙ ap body_length (same-head is.front (text ++ rest) other parts is.told) ∙ sized) in
      omega (arith, ap (length {A = ℕ}) parts, length-append is.front (text ++ rest), length-append text rest, same.0)

  pub no_message-awaited : length bytes < size + body → HoldsNoMessage bytes
  no_message-awaited short = λ stretch rest message split is. awaited short stretch rest message split is

-- a head stays as it is held where more bytes come behind
pub holds-more : (bytes more : List ℕ) (size : ℕ) → HoldsHead bytes size → HoldsHead (bytes ++ more) size
holds-more bytes more size holds = record { ends = head_length-append bytes more size holds.ends; fits = holds.fits }

pub take-more : (bytes more : List ℕ) (size : ℕ) → HoldsHead bytes size → take size (bytes ++ more) ≡ take size bytes
take-more bytes more size holds = let within = head_length-within bytes size holds.ends in take-append-le size bytes more within.1

-- the bytes of a head that is held are one
pub head-held : (bytes : List ℕ) (size : ℕ) → HoldsHead bytes size → IsHead (take size bytes)
head-held bytes size holds =
    let within = head_length-within bytes size holds.ends in
    let length_is : length (take size bytes) ≡ size = length-take-le size bytes within.1 in
    record {
      ends = head_length-part (take size bytes) (drop size bytes) size (ap head_length (take-append-drop size bytes) ∙ holds.ends) (omega arith) ∙ ap Some (sym length_is);
      fits = omega (arith, holds.fits);
    }

-- ---- a whole message

module _ (bytes : List ℕ) (size body : ℕ) (parts : RequestSpans) (fields : List HeaderSpan) (sized : IsSized (take size bytes) fields parts body) (inside : size + body ≤ length bytes) where
  cut-front : take size (take (size + body) bytes) ≡ take size bytes
  cut-front = take-take size (size + body) bytes (omega arith)

  len-is : parts.len ≡ size
  len-is = sized.whole ∙ length-take-le size bytes (omega arith)

  cut-within : IsRequestWithin (take size (take (size + body) bytes)) fields parts
  cut-within = subst (λ (part : List ℕ). IsRequestWithin part fields parts) (sym cut-front) sized.within

  pub whole-within : IsRequestWithin (take (size + body) bytes) fields parts
  whole-within = within-longer size (take (size + body) bytes) parts fields cut-within

  head-is : head_at (take size bytes) parts fields ≡ head_at (take (size + body) bytes) parts fields
  head-is = ap (λ (part : List ℕ). head_at part parts fields) (sym cut-front) ∙ head-front size (take (size + body) bytes) parts fields cut-within len-is

  pub whole-message : IsMessage (take (size + body) bytes) (Whole (head_at (take (size + body) bytes) parts fields) (drop parts.len (take (size + body) bytes)))
  whole-message =
      let cut = take (size + body) bytes in
      let cut_length : length cut ≡ size + body = length-take-le (size + body) bytes inside in
      let body_is : length (drop parts.len cut) ≡ body = omega (arith, length-drop parts.len cut, len-is) in
      record {
        front = take size bytes;
        split = sym (take-append-drop size cut) ∙ ap (λ (part : List ℕ). part ++ drop size cut) cut-front ∙ ap (λ (n : ℕ). take size bytes ++ drop n cut) (sym len-is);
        told = subst (λ (head : HeadValue). IsToldHead (take size bytes) head) head-is sized.told;
        sized = ap body_length (sym head-is) ∙ sized.sized ∙ ap Some (sym body_is);
      }

-- ---- faulty messages

-- as many bytes as a head may have, with no end among them
pub faulty-endless : (held : List ℕ) → None ≡ head_length (take HEAD_BYTES_MAX held) → length (take HEAD_BYTES_MAX held) ≡ HEAD_BYTES_MAX → IsFaulty (take HEAD_BYTES_MAX held) (next.Faulty false)
faulty-endless held none long = (None, inl (record { long = long; endless = sym none }), refl)

pub unreadable-answer : (bytes : List ℕ) (room : ℕ) (fields : List HeaderSpan) (got : Result (Status RequestSpans) Error) → length bytes ≤ HEAD_BYTES_MAX → room ≡ FIELD_PLACES → FindsRequest bytes room fields got →
    ((parts : RequestSpans) → got ≡ Ok (Complete parts) → parts.len ≢ length bytes) → IsUnreadable bytes
unreadable-answer bytes room fields got fits full finds other =
    unreadable bytes fields got fits (subst (λ (n : ℕ). FindsRequest bytes n fields got) full finds) (whole got other)
  where
    whole : (got : Result (Status RequestSpans) Error) → ((parts : RequestSpans) → got ≡ Ok (Complete parts) → parts.len ≢ length bytes) → IfComplete got (λ parts. parts.len ≢ length bytes)
    whole (Ok (Complete parts)) other = other parts refl
    whole (Ok Partial) other = tt
    whole (Err error) other = tt

-- a head that asks for no length of a body
pub faulty-told : (bytes : List ℕ) (fields : List HeaderSpan) (parts : RequestSpans) (head : HeadValue) (bodiless : Bool) → IsHead bytes → IsParsed bytes fields parts → head ≡ head_at bytes parts fields → None ≡ body_length head →
    bodiless ≡ is_bodiless (Faulty (Some head)) → IsFaulty bytes (next.Faulty bodiless)
faulty-told bytes fields parts head bodiless whole parsed same none told =
    (Some head, (subst (λ (value : HeadValue). IsToldHead bytes value) (sym same) (told-from_parsed bytes fields parts whole parsed), sym none), told)
