-- How the bytes held become a message: steps between the bytes read and what is told of them.
use Rattle.std.specs.Prelude.{◌≡◌, ◌≢◌, ℕ, ◌+◌, ◌<◌, ◌≤◌, List, [], ◌++◌, length, drop, Option, Some, Result, Ok, Err, IfSome}
use Rattle.desk_io.specs.Reading.{Taken}
use Rattle.desk_io.specs.WindowValue.{WindowValue}
use Rattle.httparse.specs.Grammar.{RequestHead}
use Rattle.httparse.specs.Spans.{IsRequestAt, IsRequestWithin}
use Rattle.httparse.specs.declared.spans.HeaderSpan.{HeaderSpan}
use Rattle.httparse.specs.declared.spans.RequestSpans.{RequestSpans}
use Rattle.http_api.specs.declared.limits.TheConstants.{HEAD_BYTES_MAX}
use Rattle.http_api.specs.declared.next_message.NextMessage.{NextMessage}
use Rattle.http_api.specs.declared.next_message.NextMessage.TheVariants as next
use Rattle.http_api.specs.HeadAt.{head_at}
use Rattle.http_api.specs.HeadEnd.{without_blank, head_length}
use Rattle.http_api.specs.HeadValue.{HeadValue}
use Rattle.http_api.specs.Judging.{body_length}
use Rattle.http_api.specs.Message.{Faulty, Whole, IsToldHead, IsMessage, HoldsNoMessage, is_bodiless}

-- the rest of bytes stands behind one empty line
pub record IsBehindBlank (bytes rest : List ℕ) : Type 0 where
  pub count : ℕ
  pub some : 0 < count
  pub size : length rest + count ≡ length bytes
  pub suffix : drop count bytes ≡ rest
  pub same : without_blank bytes ≡ without_blank rest

-- the parts stand in these bytes, all of which are a head
pub record IsParsed (bytes : List ℕ) (fields : List HeaderSpan) (parts : RequestSpans) : Type 0 where
  pub whole : parts.len ≡ length bytes
  pub within : IsRequestWithin bytes fields parts
  pub head : RequestHead
  pub at : IsRequestAt bytes fields parts head

-- the bytes are a head that asks for a body of this many bytes
pub record IsSized (bytes : List ℕ) (fields : List HeaderSpan) (parts : RequestSpans) (body : ℕ) : Type 0 where
  pub whole : parts.len ≡ length bytes
  pub within : IsRequestWithin bytes fields parts
  pub told : IsToldHead bytes (head_at bytes parts fields)
  pub sized : body_length (head_at bytes parts fields) ≡ Some body

-- the bytes end the session by an ending judgement
abbrev pub IsFaulty : List ℕ → NextMessage → Type 0
IsFaulty bytes next.Whole = ⊥
IsFaulty bytes (next.Faulty bodiless) =
    (head : Option HeadValue) × IsMessage bytes (Faulty head) × (bodiless ≡ is_bodiless (Faulty head))
IsFaulty bytes next.Ended = ⊥
IsFaulty bytes next.CutShort = ⊥
IsFaulty bytes next.ReadFault = ⊥

-- a head is read, with the length of its body, or its bytes end the session
abbrev pub ReadsParts : List ℕ → List HeaderSpan → Result (RequestSpans × ℕ) NextMessage → Type 0
ReadsParts bytes fields (Ok read) = IsSized bytes fields read.0 read.1
ReadsParts bytes fields (Err fault) = IsFaulty bytes fault

-- how the end of a source ends a session
abbrev pub EndsAs : List ℕ → NextMessage → Type 0
EndsAs bytes next.Whole = ⊥
EndsAs bytes (next.Faulty bodiless) = ⊥
EndsAs bytes next.Ended = without_blank bytes ≡ []
EndsAs bytes next.CutShort = without_blank bytes ≢ []
EndsAs bytes next.ReadFault = ⊥

-- what comes in the place of a message with a body: a faulty one that was cut, or an end or a fault before any
abbrev pub IsEnding : List ℕ → Option (List ℕ) → WindowValue → NextMessage → Type 0
IsEnding ahead left_now now next.Whole = ⊥
IsEnding ahead left_now now (next.Faulty bodiless) =
    (ahead ≡ now.cut ++ now.held) × IsFaulty now.cut (next.Faulty bodiless)
IsEnding ahead left_now now next.Ended =
    HoldsNoMessage ahead × (without_blank ahead ≡ []) × IfSome left_now (λ left. left ≡ [])
IsEnding ahead left_now now next.CutShort =
    HoldsNoMessage ahead × (without_blank ahead ≢ []) × IfSome left_now (λ left. left ≡ [])
IsEnding ahead left_now now next.ReadFault = HoldsNoMessage ahead

-- the bytes held grew by those that were read
pub record Grows (left left_now : Option (List ℕ)) (held held_now : List ℕ) : Type 0 where
  pub read : List ℕ
  pub taken : Taken left left_now read
  pub grew : held_now ≡ held ++ read

-- a head of this many bytes stands in front
pub record HoldsHead (bytes : List ℕ) (size : ℕ) : Type 0 where
  pub ends : head_length bytes ≡ Some size
  pub fits : size ≤ HEAD_BYTES_MAX

-- a head is held, or no head comes
abbrev pub IsHeadNext : List ℕ → Option (List ℕ) → WindowValue → Result ℕ NextMessage → Type 0
IsHeadNext ahead left_now now (Ok size) = (now.held ≡ ahead) × HoldsHead ahead size
IsHeadNext ahead left_now now (Err ending) = IsEnding ahead left_now now ending

-- bytes were read up to a head, or to what comes in its place
pub record ReadsHead
    (left left_now : Option (List ℕ)) (held : List ℕ) (now : WindowValue) (got : Result ℕ NextMessage) : Type 0 where
  pub read : List ℕ
  pub taken : Taken left left_now read
  pub next : IsHeadNext (held ++ read) left_now now got

-- so many bytes are held, or the source ended or failed before
abbrev pub IsUpTo : ℕ → Option (List ℕ) → List ℕ → Result Unit NextMessage → Type 0
IsUpTo size left_now held (Ok done) = size ≤ length held
IsUpTo size left_now held (Err next.Whole) = ⊥
IsUpTo size left_now held (Err (next.Faulty bodiless)) = ⊥
IsUpTo size left_now held (Err next.Ended) = ⊥
IsUpTo size left_now held (Err next.CutShort) = (length held < size) × IfSome left_now (λ left. left ≡ [])
IsUpTo size left_now held (Err next.ReadFault) = length held < size

-- a message with its body was cut, or this came in its place
abbrev pub IsCutNext :
    List ℕ → Option (List ℕ) → WindowValue → List HeaderSpan → Result RequestSpans NextMessage → Type 0
IsCutNext ahead left_now now fields (Ok parts) =
    (ahead ≡ now.cut ++ now.held) × IsMessage now.cut (Whole (head_at now.cut parts fields) (drop parts.len now.cut))
    × IsRequestWithin now.cut fields parts
IsCutNext ahead left_now now fields (Err ending) = IsEnding ahead left_now now ending

-- bytes were read up to a whole message, which was cut, or to what comes in its place
pub record CutsMessage
    (left left_now : Option (List ℕ)) (held : List ℕ) (now : WindowValue) (fields : List HeaderSpan)
    (got : Result RequestSpans NextMessage) : Type 0 where
  pub read : List ℕ
  pub taken : Taken left left_now read
  pub next : IsCutNext (held ++ read) left_now now fields got
