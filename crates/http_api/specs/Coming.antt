-- What comes next of a link: a message, or its end.
use Rattle.std.specs.Prelude.{◌≡◌, ◌≢◌, ℕ, List, [], ◌++◌, Option, IfSome, ⊤}
use Rattle.desk_io.specs.Faults.{Rose}
use Rattle.desk_io.specs.Reading.{Taken}
use Rattle.http_api.specs.declared.next_message.NextMessage.{NextMessage}
use Rattle.http_api.specs.declared.next_message.NextMessage.TheVariants as next
use Rattle.http_api.specs.HeadValue.{HeadValue}
use Rattle.http_api.specs.HeadEnd.{without_blank}
use Rattle.http_api.specs.Message.{Faulty, Whole, IsMessage, HoldsNoMessage, is_bodiless}
use Rattle.http_api.specs.ReaderValue.{ReaderValue}

-- what came next of the bytes that were ahead
abbrev pub IsNext : List ℕ → Option (List ℕ) → NextMessage → ReaderValue → Type 0
IsNext ahead left_now next.Whole now =
    (ahead ≡ now.last ++ now.held) × IsMessage now.last (Whole now.head now.body)
IsNext ahead left_now (next.Faulty bodiless) now =
    (ahead ≡ now.last ++ now.held)
    × (head : Option HeadValue) × IsMessage now.last (Faulty head) × (bodiless ≡ is_bodiless (Faulty head))
IsNext ahead left_now next.Ended now =
    HoldsNoMessage ahead × (without_blank ahead ≡ []) × IfSome left_now (λ left. left ≡ [])
IsNext ahead left_now next.CutShort now =
    HoldsNoMessage ahead × (without_blank ahead ≢ []) × IfSome left_now (λ left. left ≡ [])
IsNext ahead left_now next.ReadFault now = HoldsNoMessage ahead

-- bytes were read, and this came next
pub record Comes (held : List ℕ) (left left_now : Option (List ℕ)) (got : NextMessage) (now : ReaderValue) : Type 0 where
  pub read : List ℕ
  pub taken : Taken left left_now read
  pub next : IsNext (held ++ read) left_now got now

-- a read fails only where the count of faults rose
abbrev pub NextCause : ℕ → ℕ → NextMessage → Type 0
NextCause before now next.ReadFault = Rose before now
NextCause before now next.Whole = ⊤
NextCause before now (next.Faulty bodiless) = ⊤
NextCause before now next.Ended = ⊤
NextCause before now next.CutShort = ⊤
