-- Some bytes, as far as they were sent to a sink.
use Rattle.std.proofs.Common.{◌≡◌, ℕ, ◌<◌, ◌^◌, List, [], ◌++◌, length, take, drop, IfSome, refl, sym, ap, subst, ◌∙◌, append_assoc, append-nil, take-append-drop, arith}
use Rattle.desk_io.specs.SinkView.{SinkView}
use Rattle.desk_io.specs.Writing.{Appends, AppendsNothing, IsProperPrefix}
use Rattle.desk_io.proofs.Appending.{Appends_none, Appends_more, IsProperPrefix_longer, IsProperPrefix_behind}

-- the bytes but for this rest were appended to the sink
pub record Sending (o p : SinkView) (bytes rest : List ℕ) : Type 0 where
  pub sent : List ℕ
  pub appends : Appends o p sent
  pub whole : bytes ≡ sent ++ rest

pub Sending_start : (o : SinkView) (bytes : List ℕ) → IfSome o.taken (λ n. n < 2 ^ 64) → Sending o o bytes bytes
Sending_start o bytes fits = record { sent = []; appends = Appends_none o fits; whole = refl }

pub Sending_more : (o p q : SinkView) (bytes rest : List ℕ) (n : ℕ) → Sending o p bytes rest → Appends p q (take n rest) → Sending o q bytes (drop n rest)
Sending_more o p q bytes rest n so_far appends = record {
  sent = so_far.sent ++ take n rest;
  appends = Appends_more o p q so_far.sent (take n rest) so_far.appends appends;
  whole = so_far.whole ∙ ap (λ more. so_far.sent ++ more) (sym (take-append-drop n rest)) ∙ sym (append_assoc so_far.sent (take n rest) (drop n rest));
}

pub Sending_end : (o p : SinkView) (bytes rest : List ℕ) → Sending o p bytes rest → rest ≡ [] → Appends o p bytes
Sending_end o p bytes rest so_far none =
    let all : so_far.sent ≡ bytes = sym (so_far.whole ∙ ap (λ more. so_far.sent ++ more) none ∙ append-nil so_far.sent) in
    subst (λ (sent : List ℕ). Appends o p sent) all so_far.appends

-- a fault, which appends nothing, leaves a beginning and not all of the bytes appended
pub Sending_fault : (o p q : SinkView) (bytes rest : List ℕ) → Sending o p bytes rest → AppendsNothing p q → 0 < length rest → (sent : List ℕ) × Appends o q sent × IsProperPrefix sent bytes
Sending_fault o p q bytes rest so_far same left = (
  so_far.sent,
  record { appended = same.nothing_written ∙ so_far.appends.appended; counted = same.nothing_taken ∙ so_far.appends.counted },
  (rest, so_far.whole, λ none. let nothing : length rest ≡ 0 = ap length none in absurd (omega arith)),
)

-- a beginning of the bytes, but not all of them, was appended
abbrev pub BrokenOff : SinkView → SinkView → List ℕ → Type 0
BrokenOff o p bytes = (sent : List ℕ) × Appends o p sent × IsProperPrefix sent bytes

pub BrokenOff_longer : (o p : SinkView) (bytes more : List ℕ) → BrokenOff o p bytes → BrokenOff o p (bytes ++ more)
BrokenOff_longer o p bytes more (sent, appends, part) = (sent, appends, IsProperPrefix_longer sent bytes more part)

pub BrokenOff_behind : (o p q : SinkView) (first bytes : List ℕ) → Appends o p first → BrokenOff p q bytes → BrokenOff o q (first ++ bytes)
BrokenOff_behind o p q first bytes one (sent, appends, part) = (first ++ sent, Appends_more o p q first sent one appends, IsProperPrefix_behind first sent bytes part)
