-- What a service does with a call, and with a list of calls one after another.
use Rattle.std.specs.Prelude.{◌≡◌, ◌≢◌, ℕ, ◌+◌, Bool, true, false, IsTrue, List, [], ◌∷◌, ◌++◌, length, All, Result, ⊤}
use Rattle.std.specs.Prelude.{Ok, Err}
use Rattle.desk_types.specs.declared.call.Call.{Call}
use Rattle.desk_types.specs.declared.entry.Entry.{Entry}
use Rattle.desk_types.specs.declared.entry.Outcome.{Outcome}
use Rattle.desk_types.specs.declared.entry.Outcome.TheVariants.{Answered, Faulted}
use Rattle.desk_types.specs.declared.entry.Fault.{Fault}
use Rattle.desk_types.specs.declared.entry.Fault.TheVariants.{Keeper, JournalFull, NoMemory}
use Rattle.desk_types.specs.declared.reply.Reply.{Reply}
use Rattle.desk_types.specs.Journal.{IsLegal, IsRise, bytes_of, entries_of, is_full}
use Rattle.desk_types.specs.Run.{answer}
use Rattle.desk_types.specs.State.{State}

-- a service as contracts see it: its caller's number, the state before all entries, with the settings, the entries that
-- it has seen, and whether its keeper never fails
pub record ServiceView : Type 0 where
  pub me : ℕ
  pub opening : State
  pub seen : List Entry
  pub sure : Bool

-- the service where it has seen these entries
abbrev pub with_seen : ServiceView → List Entry → ServiceView
with_seen service seen = record service { seen = seen }

-- no entry is the caller's
abbrev pub AreOfOthers : ℕ → List Entry → Type 0
AreOfOthers caller entries = All (λ e. e.caller ≢ caller) entries

-- the entries with the caller's next entry
abbrev pub with_entry : ℕ → List Entry → ℕ → Call → Outcome → List Entry
with_entry caller entries moment call outcome =
    let number = entries_of caller entries + 1 in
    entries ++ record { caller = caller; number = number; moment = moment; call = call; outcome = outcome } ∷ []

-- a call, made where the service has seen all entries before it, has this result and leaves these entries
abbrev pub Ends : ServiceView → ℕ → Call → Result Reply Fault → List Entry → Type 0
Ends found moment call (Ok reply) left =
    (is_full found.opening.settings found.seen call ≡ false) × (reply ≡ answer found.opening found.seen moment call)
    × (left ≡ with_entry found.me found.seen moment call Answered)
Ends found moment call (Err (Keeper before after)) left =
    (is_full found.opening.settings found.seen call ≡ false) × IsRise before after
    × (left ≡ with_entry found.me found.seen moment call (Faulted before after))
Ends found moment call (Err (JournalFull entries bytes)) left =
    (is_full found.opening.settings found.seen call ≡ true)
    × (entries ≡ length found.seen) × (bytes ≡ bytes_of found.seen) × (left ≡ found.seen)
Ends found moment call (Err NoMemory) left = left ≡ found.seen

-- the result is no fault of the keeper
abbrev pub IsSureResult : Result Reply Fault → Type 0
IsSureResult (Ok reply) = ⊤
IsSureResult (Err (Keeper before after)) = ⊥
IsSureResult (Err (JournalFull entries bytes)) = ⊤
IsSureResult (Err NoMemory) = ⊤

-- no entry tells of a fault of the keeper
abbrev pub HasNoFault : List Entry → Type 0
HasNoFault entries = All (λ e. e.outcome ≡ Answered) entries

-- one call: entries of others come, and then it ends; what is seen stays a journal, and all else of the service stays
pub record Serves
    (service : ServiceView) (moment : ℕ) (call : Call) (result : Result Reply Fault) (service_now : ServiceView)
    : Type 0 where
  pub others : List Entry
  pub of_others : AreOfOthers service.me others
  pub ends : Ends (with_seen service (service.seen ++ others)) moment call result service_now.seen
  pub legal : IsLegal service.opening.settings service_now.seen
  pub stays : service_now ≡ with_seen service service_now.seen
  pub sure_result : IsTrue service.sure → IsSureResult result

-- no call: entries of others come, and all else of the service stays
pub record IsIdle (service service_now : ServiceView) : Type 0 where
  pub others : List Entry
  pub of_others : AreOfOthers service.me others
  pub seen : service_now ≡ with_seen service (service.seen ++ others)
  pub legal : IsLegal service.opening.settings service_now.seen

-- a list of calls with their moments, one after another, with these results; entries of others may come last
unfoldable pub AreServed : ServiceView → List (ℕ × Call) → List (Result Reply Fault) → ServiceView → Type 0
AreServed service [] [] service_now = IsIdle service service_now
AreServed service (call ∷ calls) (result ∷ results) service_now =
    (between : ServiceView) × Serves service call.0 call.1 result between × AreServed between calls results service_now
AreServed service [] (result ∷ results) service_now = ⊥
AreServed service (call ∷ calls) [] service_now = ⊥
