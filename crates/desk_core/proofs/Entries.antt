-- The faults that a journal tells of, by the keeper's counts.
use Rattle.std.proofs.Common.{◌≡◌, ℕ, ◌≤◌, List, get_or, arith}
use Rattle.std.specs.List.{All}
use Rattle.std.proofs.lemmas.List.Elements.{All-weaker}
use Rattle.desk_types.specs.declared.entry.Entry.{Entry}
use Rattle.desk_types.specs.declared.entry.Outcome.{Outcome}
use Rattle.desk_types.specs.declared.entry.Outcome.TheVariants.{Answered, Faulted}
use Rattle.desk_types.specs.Journal.{IsBefore}
use Rattle.desk_core.specs.DeskValue.{IsCountedWithin}

within_more : (base count more : ℕ) (o : Outcome) → count ≤ more → IsCountedWithin base count o → IsCountedWithin base more o
within_more base count more Answered low h = tt
within_more base count more (Faulted before after) low h = (h.0, omega (arith, h.1, low))

-- the count rises
pub counted_more : (base count more : ℕ) (entries : List Entry) → count ≤ more → All (λ e. IsCountedWithin base count e.outcome) entries → All (λ e. IsCountedWithin base more e.outcome) entries
counted_more base count more entries low h =
    All-weaker (λ (e : Entry). IsCountedWithin base count e.outcome) (λ (e : Entry). IsCountedWithin base more e.outcome) (λ e k. within_more base count more e.outcome low k) entries h

before_fault : (base count before after : ℕ) (o : Outcome) → before ≡ count → IsCountedWithin base count o → IsBefore o (Faulted before after)
before_fault base count before after Answered is h = tt
before_fault base count before after (Faulted first last) is h = omega (arith, h.1, is)

-- a further fault comes behind them
pub all_before_fault : (base count before after : ℕ) (entries : List Entry) → before ≡ count → All (λ e. IsCountedWithin base count e.outcome) entries → All (λ e. IsBefore e.outcome (Faulted before after)) entries
all_before_fault base count before after entries is h =
    All-weaker (λ (e : Entry). IsCountedWithin base count e.outcome) (λ (e : Entry). IsBefore e.outcome (Faulted before after)) (λ e k. before_fault base count before after e.outcome is k) entries h

before_answer : (o : Outcome) → IsBefore o Answered
before_answer Answered = tt
before_answer (Faulted before after) = tt

-- an answer comes behind any entries
pub all_before_answer : (entries : List Entry) → All (λ e. IsBefore e.outcome Answered) entries
all_before_answer entries = λ k d low. before_answer (get_or entries k d).outcome
