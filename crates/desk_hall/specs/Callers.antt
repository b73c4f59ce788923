-- A caller of a hall, as contracts see it.
use Rattle.std.specs.Prelude.{◌≡◌, ℕ, ◌-◌, IsTrue, List, [], length, take, Option, None, Some, is_some, IfSome, Result, Ok, Err}
use Rattle.desk_types.specs.declared.entry.Entry.{Entry}
use Rattle.desk_types.specs.declared.entry.Fault.{Fault}
use Rattle.desk_types.specs.declared.entry.Fault.TheVariants.{Keeper, JournalFull, NoMemory}
use Rattle.desk_types.specs.declared.reply.Reply.{Reply}
use Rattle.desk_types.specs.Journal.{IsLegal}
use Rattle.desk_types.specs.Opening.{opened}
use Rattle.desk_types.specs.Serving.{HasNoFault, ServiceView}
use Rattle.desk_types.specs.State.{State}
use Rattle.desk_core.specs.declared.name.DeskName.{DeskName}
use Rattle.turn_lock.specs.Lists.{items_by}
use Rattle.turn_lock.specs.LockValues.{LockId, PassValue}

-- a pass of a hall
abbrev pub HallPass : Type 0
HallPass = PassValue Entry DeskName

-- all entries but the last
abbrev pub all_but_last : List Entry → List Entry
all_but_last entries = take (length entries - 1) entries

-- the entries of a caller, in order
abbrev pub entries_by : ℕ → List Entry → List Entry
entries_by caller entries = items_by (λ e. e.caller) caller entries

-- the state before all entries, on a desk of this name
abbrev pub opening_of : DeskName → State
opening_of name = opened name.settings name.opening

-- a service of the pass's caller, which has seen what the pass has
abbrev pub service_of_pass : HallPass → ServiceView
service_of_pass p = record { me = p.number; opening = opening_of p.lock.name; seen = p.seen; sure = p.lock.name.sure }

-- the pass has seen a journal, without faults where the keeper never fails
pub record HasSeenLegal (p : HallPass) : Type 0 where
  pub legal : IsLegal p.lock.name.settings p.seen
  pub no_fault : IsTrue p.lock.name.sure → HasNoFault p.seen

-- which lock the hall has, and the caller as a service
pub record CallerValue : Type 0 where
  pub home : LockId DeskName
  pub service : ServiceView

-- a caller with this pass
abbrev pub caller_of : HallPass → CallerValue
caller_of p = record { home = p.lock; service = service_of_pass p }

-- a caller that may have its pass out
abbrev pub caller_at : LockId DeskName → Option HallPass → CallerValue
caller_at lock (Some p) = caller_of p
caller_at lock None = caller_of record { lock = lock; number = 0; seen = [] }

-- the pass is there, of this lock, and has seen a journal
pub record IsReady (lock : LockId DeskName) (pass : Option HallPass) : Type 0 where
  pub there : IsTrue (is_some pass)
  pub of_lock : IfSome pass (λ p. p.lock ≡ lock)
  pub legal : IfSome pass HasSeenLegal

-- what a call with this result found, of the entries that are seen after it: all but the call's own, if it put one
abbrev pub entries_before : Result Reply Fault → List Entry → List Entry
entries_before (Ok reply) seen = all_but_last seen
entries_before (Err (Keeper before after)) seen = all_but_last seen
entries_before (Err (JournalFull entries bytes)) seen = seen
entries_before (Err NoMemory) seen = seen
