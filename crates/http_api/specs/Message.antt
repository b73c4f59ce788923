-- Messages: what a stretch of bytes is, and where messages stand in bytes.
use Rattle.std.specs.Prelude.{◌≡◌, ℕ, ◌≤◌, ◌⊎◌, Bool, true, false, ◌&&◌, nat_le, List, [], ◌++◌, length, bytes_eq, codes, Option, Some, None}
use Rattle.httparse.specs.Grammar.{RequestHead, ReadsRequest}
use Rattle.http_api.specs.declared.limits.TheConstants.{HEAD_BYTES_MAX, FIELDS_MAX}
use Rattle.http_api.specs.HeadValue.{HeadValue, told_by}
use Rattle.http_api.specs.HeadEnd.{head_length}
use Rattle.http_api.specs.Fields.{asks_to_close}
use Rattle.http_api.specs.Judging.{body_length}

-- bytes on which an ending judgement is made, with their head where it was read; or a head with its body
pub data Message : Type 0 where
  Faulty : Option HeadValue → Message
  Whole : HeadValue → List ℕ → Message

-- the bytes are a head by its end, of no more bytes than a head may have
pub record IsHead (bytes : List ℕ) : Type 0 where
  pub ends : head_length bytes ≡ Some (length bytes)
  pub fits : length bytes ≤ HEAD_BYTES_MAX

-- they are no head that can be read
abbrev pub IsUnreadable : List ℕ → Type 0
IsUnreadable bytes = (head : RequestHead) → ¬ (ReadsRequest bytes head [])

-- as many bytes as a head may have, and no end among them
pub record HasNoEnd (bytes : List ℕ) : Type 0 where
  pub long : length bytes ≡ HEAD_BYTES_MAX
  pub endless : head_length bytes ≡ None

-- the bytes are a head that tells this
pub record IsToldHead (bytes : List ℕ) (head : HeadValue) : Type 0 where
  pub whole : IsHead bytes
  pub read : RequestHead
  pub reads : ReadsRequest bytes read []
  pub tells : head ≡ told_by read

-- the bytes are a head and the body that it asks for
pub record IsWhole (bytes : List ℕ) (head : HeadValue) (body : List ℕ) : Type 0 where
  pub front : List ℕ
  pub split : bytes ≡ front ++ body
  pub told : IsToldHead front head
  pub sized : body_length head ≡ Some (length body)

-- the stretch of bytes is this message
abbrev pub IsMessage : List ℕ → Message → Type 0
IsMessage bytes (Faulty None) = HasNoEnd bytes ⊎ (IsHead bytes × IsUnreadable bytes)
IsMessage bytes (Faulty (Some head)) = IsToldHead bytes head × (body_length head ≡ None)
IsMessage bytes (Whole head body) = IsWhole bytes head body

-- no message stands in front of the bytes
abbrev pub HoldsNoMessage : List ℕ → Type 0
HoldsNoMessage bytes =
    (stretch rest : List ℕ) (message : Message) → bytes ≡ stretch ++ rest → ¬ (IsMessage stretch message)

-- whether its answer has no body: its method is HEAD, and the head was read and has no more fields than it may have
abbrev pub is_bodiless : Message → Bool
is_bodiless (Faulty None) = false
is_bodiless (Faulty (Some head)) = nat_le (length head.fields) FIELDS_MAX && bytes_eq head.method (codes "HEAD")
is_bodiless (Whole head body) = bytes_eq head.method (codes "HEAD")

-- whether it ends the session, by a judgement or since it asks to close
abbrev pub ends_session : Message → Bool
ends_session (Faulty head) = true
ends_session (Whole head body) = asks_to_close head
