-- Bytes put into a buffer one after another are put together.
use Rattle.std.proofs.Common.{◌≡◌, ℕ, ◌≤◌, ◌<◌, ◌^◌, List, [], ◌++◌, Result, Ok, Err, IfSome, IsErr, sym, ap, subst, ◌∙◌, append_assoc, append-nil, arith}
use Rattle.desk_io.specs.Faults.{Rose}
use Rattle.desk_io.specs.SinkView.{SinkView}
use Rattle.desk_io.specs.Writing.{IsProperPrefix}
use Rattle.desk_io.specs.Putting.{SendsFront, BreaksOff, Sends, Flushes, Puts}
use Rattle.desk_io.proofs.Appending.{Appends_none, Appends_more, IsProperPrefix_longer, IsProperPrefix_behind}

module _ (o p q : SinkView) (w x y first second : List ℕ) where
  -- what is to be sent in all, where some of it was sent from the front
  whole : (sent : List ℕ) → sent ++ x ≡ w ++ first → sent ++ (x ++ second) ≡ w ++ (first ++ second)
  whole sent is = sym (append_assoc sent x second) ∙ ap (λ bytes. bytes ++ second) is ∙ append_assoc w first second

  sends_again : SendsFront o p (w ++ first) x → SendsFront p q (x ++ second) y → SendsFront o q (w ++ (first ++ second)) y
  sends_again (sent, appends, is) (more, appends_more, is_more) = (
    sent ++ more,
    Appends_more o p q sent more appends appends_more,
    append_assoc sent more y ∙ ap (λ bytes. sent ++ bytes) is_more ∙ whole sent is,
  )

  breaks_again : SendsFront o p (w ++ first) x → BreaksOff p q (x ++ second) → BreaksOff o q (w ++ (first ++ second))
  breaks_again (sent, appends, is) (more, appends_more, part) = (
    sent ++ more,
    Appends_more o p q sent more appends appends_more,
    subst (IsProperPrefix (sent ++ more)) (whole sent is) (IsProperPrefix_behind sent more (x ++ second) part),
  )

  breaks_longer : BreaksOff o p (w ++ first) → BreaksOff o p (w ++ (first ++ second))
  breaks_longer (sent, appends, part) = (
    sent,
    appends,
    subst (IsProperPrefix sent) (append_assoc w first second) (IsProperPrefix_longer sent (w ++ first) second part),
  )

rose_later : (before between now : ℕ) → before ≤ between → Rose between now → Rose before now
rose_later before between now low rose = omega arith

-- bytes that are put after others are put together with them
pub puts_again : {T U E F : Type 0} {value : T} {o p q : SinkView} {w x y first second : List ℕ} {result : Result U F} → Puts {E = E} o p w x first (Ok value) → Puts p q x y second result → Puts o q w y (first ++ second) result
puts_again {o = o} {p} {q} {w} {x} {y} {first} {second} {result = Ok value} one two = record {
  put = sends_again o p q w x y first second one.put two.put;
  broken = tt;
  cause = tt;
  faults = omega (arith, one.faults, two.faults);
}
puts_again {o = o} {p} {q} {w} {x} {y} {first} {second} {result = Err error} one two = record {
  put = tt;
  broken = breaks_again o p q w x y first second one.put two.broken;
  cause = rose_later _ _ _ one.faults two.cause;
  faults = omega (arith, one.faults, two.faults);
}

-- the same bytes by another name
pub puts_as : {T E : Type 0} {o p : SinkView} {w x bytes text : List ℕ} {result : Result T E} → Puts o p w x bytes result → bytes ≡ text → Puts o p w x text result
puts_as {o = o} {p} {w} {x} {result = result} puts is = subst (λ (all : List ℕ). Puts o p w x all result) is puts

-- where a write failed, the bytes that were to come next are not sent
pub puts_broken : {T U E F : Type 0} {error : E} {o p : SinkView} {w x y first : List ℕ} {result : Result U F} (second : List ℕ) → Puts {T = T} o p w x first (Err error) → IsErr result → Puts o p w y (first ++ second) result
puts_broken {result = Ok value} second one is_err = absurd (cc)
puts_broken {o = o} {p} {w} {x} {y} {first} {result = Err error} second one is_err = record {
  put = tt;
  broken = breaks_longer o p p w x y first second one.broken;
  cause = one.cause;
  faults = one.faults;
}

-- bytes that wait are put, and nothing is sent
pub puts_held : {T E : Type 0} {value : T} {o : SinkView} {w y bytes : List ℕ} → IfSome o.taken (λ n. n < 2 ^ 64) → y ≡ w ++ bytes → Puts {E = E} o o w y bytes (Ok value)
puts_held {o = o} fits is = record {
  put = ([], Appends_none o fits, is);
  broken = tt;
  cause = tt;
  faults = omega arith;
}

-- where there are no bytes, nothing is put
pub puts_nothing : {T E : Type 0} {value : T} {o : SinkView} {w : List ℕ} → IfSome o.taken (λ n. n < 2 ^ 64) → Puts {E = E} o o w w [] (Ok value)
puts_nothing {w = w} fits = puts_held fits (sym (append-nil w))

-- what waits may be sent before bytes are put
pub puts_flushed : {T U E F : Type 0} {value : T} {o p q : SinkView} {w x y bytes : List ℕ} {result : Result U F} → Flushes {E = E} o p w x (Ok value) → Puts p q x y bytes result → Puts o q w y bytes result
puts_flushed {T} {E = E} {value} {o} {p} {w = w} {x} flushes puts = puts_again flushed puts
  where
    flushed : Puts {E = E} o p w x [] (Ok value)
    flushed = record {
      put = (w, flushes.sends.sent, ap (λ waiting. w ++ waiting) flushes.empty);
      broken = tt;
      cause = tt;
      faults = flushes.sends.faults;
    }

-- where this failed, no bytes are sent
pub puts_unflushed : {T U E F : Type 0} {error : E} {o p : SinkView} {w x y bytes : List ℕ} {result : Result U F} → Flushes {T = T} o p w x (Err error) → IsErr result → Puts o p w y bytes result
puts_unflushed {T} {error = error} {o} {p} {w} {x} flushes is_err = puts_broken _ unflushed is_err
  where
    unflushed : Puts {T = T} o p w x [] (Err error)
    unflushed = record {
      put = tt;
      broken = subst (BreaksOff o p) (sym (append-nil w)) flushes.sends.broken;
      cause = flushes.sends.cause;
      faults = flushes.sends.faults;
    }

-- where nothing waits, bytes may be sent at once
pub puts_sent : {T E : Type 0} {o p : SinkView} {w bytes : List ℕ} {result : Result T E} → w ≡ [] → Sends o p bytes result → Puts o p w w bytes result
puts_sent {o = o} {p} {bytes = bytes} {result} none sends = subst (λ (waiting : List ℕ). Puts o p waiting waiting bytes result) (sym none) (at_once result sends)
  where
    at_once : {T E : Type 0} (result : Result T E) → Sends o p bytes result → Puts o p [] [] bytes result
    at_once (Ok value) sends = record {
      put = (bytes, sends.sent, append-nil bytes);
      broken = tt;
      cause = tt;
      faults = sends.faults;
    }
    at_once (Err error) sends = record {
      put = tt;
      broken = sends.broken;
      cause = sends.cause;
      faults = sends.faults;
    }
