-- Bytes that are put and then sent, and what is answered.
use Rattle.std.proofs.Common.{◌≡◌, ℕ, ◌≤◌, List, [], ◌++◌, Result, Ok, Err, IsErr, subst, arith}
use Rattle.desk_io.specs.Faults.{Rose}
use Rattle.desk_io.specs.Putting.{SendsFront, BreaksOff, Sends, Flushes, Puts}
use Rattle.desk_io.specs.SinkView.{SinkView}
use Rattle.desk_io.specs.Writing.{Appends, IsProperPrefix}
use Rattle.desk_io.proofs.Appending.{Appends_more, IsProperPrefix_behind, IsProperPrefix_longer}

rose_later : (before between now : ℕ) → before ≤ between → Rose between now → Rose before now
rose_later before between now low rose = omega arith

-- what was put into an empty buffer is sent with the rest that waits
pub sends_put : {T U E F : Type 0} {value : T} (o p q : SinkView) (waiting waiting_now waiting_then bytes : List ℕ) (result : Result U F) → waiting ≡ [] →
    Puts {E = E} o p waiting waiting_now bytes (Ok value) → Flushes p q waiting_now waiting_then result → Sends o q bytes result
sends_put o p q waiting waiting_now waiting_then bytes (Ok other) none puts flushes =
    let front : SendsFront o p bytes waiting_now = rw none at puts.put in
    record {
      sent = subst (Appends o q) front.2 (Appends_more o p q front.0 waiting_now front.1 flushes.sends.sent);
      broken = tt;
      cause = tt;
      faults = omega (arith, puts.faults, flushes.sends.faults);
    }
sends_put o p q waiting waiting_now waiting_then bytes (Err fault) none puts flushes =
    let front : SendsFront o p bytes waiting_now = rw none at puts.put in
    let (more, appends, part) = flushes.sends.broken in
    record {
      sent = tt;
      broken = (front.0 ++ more, Appends_more o p q front.0 more front.1 appends, subst (IsProperPrefix (front.0 ++ more)) front.2 (IsProperPrefix_behind front.0 more waiting_now part));
      cause = rose_later o.faults p.faults q.faults puts.faults flushes.sends.cause;
      faults = omega (arith, puts.faults, flushes.sends.faults);
    }

-- where a write failed before all was put, a beginning is sent
pub sends_broken : {T U E F : Type 0} {fault : E} (o p : SinkView) (waiting waiting_now first rest bytes : List ℕ) (result : Result U F) → waiting ≡ [] → first ++ rest ≡ bytes →
    Puts {T = T} o p waiting waiting_now first (Err fault) → IsErr result → Sends o p bytes result
sends_broken o p waiting waiting_now first rest bytes (Ok value) none whole puts is_err = absurd (cc)
sends_broken o p waiting waiting_now first rest bytes (Err other) none whole puts is_err =
    let broken : BreaksOff o p first = rw none at puts.broken in
    record {
      sent = tt;
      broken = (broken.0, broken.1, subst (IsProperPrefix broken.0) whole (IsProperPrefix_longer broken.0 first rest broken.2));
      cause = puts.cause;
      faults = puts.faults;
    }
