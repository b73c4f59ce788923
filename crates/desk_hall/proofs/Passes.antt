-- Passes that have seen a journal.
use Rattle.std.proofs.Common.{◌≡◌, ℕ, ◌+◌, List, Option, None, Some, sym, subst}
use Rattle.std.specs.List.{All}
use Rattle.std.specs.Prelude.{IsTrue}
use Rattle.std.proofs.lemmas.List.Elements.{All-nil}
use Rattle.std.proofs.lemmas.Option.{slice_get-get_or}
use Rattle.std.proofs.Common.{get_or}
use Rattle.desk_types.specs.declared.entry.Entry.{Entry}
use Rattle.desk_types.specs.declared.entry.Outcome.TheVariants.{Answered}
use Rattle.desk_types.specs.Journal.{IsLegal}
use Rattle.desk_types.specs.Serving.{HasNoFault}
use Rattle.desk_types.proofs.Legality.{legal_empty}
use Rattle.desk_core.specs.declared.name.DeskName.{DeskName}
use Rattle.turn_lock.specs.LockValues.{LockId, LockValue}
use Rattle.turn_lock.specs.Passes.{AreNew, fresh}
use Rattle.desk_hall.specs.Callers.{HallPass, HasSeenLegal, IsReady, caller_at}

-- no entry is a journal
legal_fresh : (lock : LockId DeskName) (number : ℕ) → HasSeenLegal (fresh lock number)
legal_fresh lock number = record { legal = legal_empty lock.name.settings; no_fault = λ sure. All-nil (λ (e : Entry). e.outcome ≡ Answered) }

pub legal_new : (lock : LockValue DeskName) (passes : List HallPass) → AreNew lock passes → All HasSeenLegal passes
legal_new lock passes new = λ k d low.
    subst HasSeenLegal (sym (new.each k (get_or passes k d) (slice_get-get_or passes k d low))) (legal_fresh lock.id (k + 1))

-- what a caller has seen is a journal
pub legal_ready : (lock : LockId DeskName) (pass : Option HallPass) → IsReady lock pass → let s = (caller_at lock pass).service in IsLegal s.opening.settings s.seen
legal_ready lock None ready = absurd cc
legal_ready lock (Some p) ready = ready.legal.legal

pub no_fault_ready : (lock : LockId DeskName) (pass : Option HallPass) → IsReady lock pass → let s = (caller_at lock pass).service in IsTrue s.sure → HasNoFault s.seen
no_fault_ready lock None ready = absurd cc
no_fault_ready lock (Some p) ready = ready.legal.no_fault
