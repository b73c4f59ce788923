-- Texts that are put into an empty buffer and sent.
use Rattle.std.proofs.Common.{◌≡◌, ℕ, ◌≤◌, List, [], ◌++◌, Result, Ok, Err, subst, arith}
use Rattle.desk_io.specs.Faults.{Rose}
use Rattle.desk_io.specs.Putting.{SendsFront, Flushes, Puts}
use Rattle.desk_io.specs.SinkView.{SinkView}
use Rattle.desk_io.specs.Writing.{Appends, IsProperPrefix}
use Rattle.desk_io.proofs.Appending.{Appends_more, IsProperPrefix_behind}

rose_later : (before between now : ℕ) → before ≤ between → Rose between now → Rose before now
rose_later before between now low rose = omega arith

-- what was put is sent with what waits
pub sends_put : {T U E F : Type 0} {value : T} (o p q : SinkView) (w x y bytes : List ℕ) (result : Result U F) → w ≡ [] →
    Puts {E = E} o p w x bytes (Ok value) → Flushes p q x y result → Flushes o q bytes y result
sends_put o p q w x y bytes (Ok other) none puts flushes =
    let front : SendsFront o p bytes x = rw none at puts.put in
    record {
      sends = record {
        sent = subst (Appends o q) front.2 (Appends_more o p q front.0 x front.1 flushes.sends.sent);
        broken = tt;
        cause = tt;
        faults = omega (arith, puts.faults, flushes.sends.faults);
      };
      empty = flushes.empty;
    }
sends_put o p q w x y bytes (Err fault) none puts flushes =
    let front : SendsFront o p bytes x = rw none at puts.put in
    let (more, appends, part) = flushes.sends.broken in
    record {
      sends = record {
        sent = tt;
        broken = (front.0 ++ more, Appends_more o p q front.0 more front.1 appends, subst (IsProperPrefix (front.0 ++ more)) front.2 (IsProperPrefix_behind front.0 more x part));
        cause = rose_later o.faults p.faults q.faults puts.faults flushes.sends.cause;
        faults = omega (arith, puts.faults, flushes.sends.faults);
      };
      empty = tt;
    }
