-- A text is escaped, cut in front of each mark in it.
use Rattle.std.proofs.Common.{◌≡◌, ℕ, zero, suc, ◌<◌, List, [], ◌∷◌, ◌++◌, length, take, drop, Result, Ok, Err, Some, None, IsErr, true, false, refl, sym, ap, ◌∙◌, append_assoc, arith}
use Rattle.std.specs.Prelude.{codes, slice_index}
use Rattle.std.proofs.lemmas.Bool.{false_from_ne_true}
use Rattle.memchr.specs.Find.{IsFirstByte, is_byte2}
use Rattle.desk_io.specs.SinkView.{SinkView}
use Rattle.desk_io.specs.Putting.{Puts}
use Rattle.desk_io.specs.declared.out_buf.WriteFault.{WriteFault}
use Rattle.desk_io.proofs.Putting.{puts_again, puts_as, puts_broken}
use Rattle.http_api.specs.Json.{escaped}

of_plain : (text : List ℕ) → ((k : ℕ) → k < length text → is_byte2 34 92 (slice_index text k) ≡ false) → escaped text ≡ text
unfolding escaped
of_plain [] plain = refl
of_plain (byte ∷ more) plain =
    let no : is_byte2 34 92 byte ≡ false = plain 0 (omega arith) in
    rw no (ap (λ (rest : List ℕ). byte ∷ rest) (of_plain more (λ k inside. plain (suc k) (omega arith))))

-- what stands in front of a mark, a backslash and the mark
abbrev marked_text : List ℕ → List ℕ → List ℕ
marked_text plain mark = plain ++ (codes "\\" ++ (mark ++ []))

abbrev cut_text : List ℕ → ℕ → List ℕ
cut_text text place = marked_text (take place text) (take 1 (drop place text)) ++ escaped (drop 1 (drop place text))

of_cut : (text : List ℕ) (place : ℕ) → place < length text → ((k : ℕ) → k < place → is_byte2 34 92 (slice_index text k) ≡ false) → is_byte2 34 92 (slice_index text place) ≡ true → escaped text ≡ cut_text text place
unfolding escaped
of_cut [] place inside plain mark = absurd (omega arith)
of_cut (byte ∷ more) zero inside plain mark = rw mark refl
of_cut (byte ∷ more) (suc place) inside plain mark =
    let no : is_byte2 34 92 byte ≡ false = plain 0 (omega arith) in
    rw no (ap (λ (rest : List ℕ). byte ∷ rest) (of_cut more place (omega arith) (λ k before. plain (suc k) (omega arith)) mark))

pub escaped-plain : (text : List ℕ) → IsFirstByte (is_byte2 34 92) text None → escaped text ≡ text
escaped-plain text none =
    of_plain text (λ k inside. false_from_ne_true (is_byte2 34 92 (slice_index text k)) (λ is. none k (omega arith) inside is))

pub escaped-cut : (text : List ℕ) (place : ℕ) → IsFirstByte (is_byte2 34 92) text (Some place) → escaped text ≡ cut_text text place
escaped-cut text place found =
    let below = found.0 in
    of_cut text place (omega (arith, below.high)) (λ k before. false_from_ne_true (is_byte2 34 92 (slice_index text k)) (λ is. below.before k (omega arith) before is)) found.1

-- a text, cut in front of its first mark and behind it
pub record MarkCut (rest plain mark behind : List ℕ) : Type 0 where
  pub place : ℕ
  pub found : IsFirstByte (is_byte2 34 92) rest (Some place)
  pub front : plain ≡ take place rest
  pub one : mark ≡ take 1 (drop place rest)
  pub back : behind ≡ drop 1 (drop place rest)

pub cut_at : {plain marked mark behind : List ℕ} (rest : List ℕ) (place : ℕ) → IsFirstByte (is_byte2 34 92) rest (Some place) → plain ≡ take place rest → marked ≡ drop place rest →
    mark ≡ take 1 marked → behind ≡ drop 1 marked → MarkCut rest plain mark behind
cut_at rest place found front marked_is one back = record {
  place = place;
  found = found;
  front = front;
  one = one ∙ ap (λ (marked : List ℕ). take 1 marked) marked_is;
  back = back ∙ ap (λ (marked : List ℕ). drop 1 marked) marked_is;
}

-- a text but for this rest was put, escaped
pub record Escaping (o p : SinkView) (w x text rest : List ℕ) : Type 0 where
  pub done : List ℕ
  pub puts : Puts {T = Unit {0}} {E = WriteFault} o p w x done (Ok tt)
  pub whole : done ++ escaped rest ≡ escaped text

cut_whole : (rest plain mark behind : List ℕ) → MarkCut rest plain mark behind → marked_text plain mark ++ escaped behind ≡ escaped rest
cut_whole rest plain mark behind cut = rw (cut.front, cut.one, cut.back) (sym (escaped-cut rest cut.place cut.found))

module _ (o p : SinkView) (w x text rest plain mark behind : List ℕ) (so_far : Escaping o p w x text rest) (cut : MarkCut rest plain mark behind) where
  whole_more : (so_far.done ++ marked_text plain mark) ++ escaped behind ≡ escaped text
  whole_more =
      append_assoc so_far.done (marked_text plain mark) (escaped behind)
      ∙ ap (λ (more : List ℕ). so_far.done ++ more) (cut_whole rest plain mark behind cut)
      ∙ so_far.whole

pub Escaping-more : {o p q : SinkView} {w x y text rest plain mark behind : List ℕ} → Escaping o p w x text rest → MarkCut rest plain mark behind →
    Puts {T = Unit {0}} {E = WriteFault} p q x y (marked_text plain mark) (Ok tt) → Escaping o q w y text behind
Escaping-more {o} {p} {q} {w} {x} {y} {text} {rest} {plain} {mark} {behind} so_far cut puts = record {
  done = so_far.done ++ marked_text plain mark;
  puts = puts_again so_far.puts puts;
  whole = whole_more o p w x text rest plain mark behind so_far cut;
}

pub Escaping-stopped : {T U E F : Type 0} {error : E} {o p q : SinkView} {w x y z text rest plain mark behind : List ℕ} {result : Result U F} →
    Escaping o p w x text rest → MarkCut rest plain mark behind → Puts {T = T} p q x y (marked_text plain mark) (Err error) → IsErr result →
    Puts o q w z (escaped text) result
Escaping-stopped {o = o} {p} {q} {w} {x} {y} {z} {text} {rest} {plain} {mark} {behind} so_far cut puts is_err =
    puts_as (puts_again so_far.puts (puts_broken (escaped behind) puts is_err))
    (sym (append_assoc so_far.done (marked_text plain mark) (escaped behind)) ∙ whole_more o p w x text rest plain mark behind so_far cut)

pub Escaping-end : {U F : Type 0} {o p q : SinkView} {w x y text rest : List ℕ} {result : Result U F} → Escaping o p w x text rest →
    IsFirstByte (is_byte2 34 92) rest None → Puts p q x y rest result → Puts o q w y (escaped text) result
Escaping-end {rest = rest} so_far none puts =
    puts_as (puts_again so_far.puts puts) (ap (λ (more : List ℕ). so_far.done ++ more) (sym (escaped-plain rest none)) ∙ so_far.whole)
