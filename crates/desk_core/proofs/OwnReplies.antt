-- An advertiser's call on a desk is answered by the account's rows, and as without what leaves the account alone.
use Rattle.std.proofs.Common.{ℕ, Result, Ok, Err, subst}
use Rattle.desk_types.specs.declared.call.Call.{Call}
use Rattle.desk_types.specs.declared.entry.Fault.{Fault}
use Rattle.desk_types.specs.declared.reply.Reply.{Reply}
use Rattle.desk_types.specs.Rules.{AreSound}
use Rattle.desk_types.proofs.Histories.{sound_run}
use Rattle.desk_types.proofs.Soundness.{sound_opened, stable}
use Rattle.desk_types.proofs.Stable.{IsStable}
use Rattle.own_rows.specs.LeftAlone.{IsAsWithoutOthers}
use Rattle.own_rows.specs.OwnReply.{IsByOwnRows}
use Rattle.own_rows.proofs.Others.{as_without_others, by_own_rows, fault_by_own_rows, fault_without_others}
use Rattle.desk_core.specs.DeskValue.{Answers, DeskValue, IsSameDesk, first_state, state}

-- the desk was opened on sound rows
stable_first : (caller moment : ℕ) (call : Call) (d : DeskValue) (result : Result Reply Fault) (after : DeskValue) → IsSameDesk d after → Answers caller d moment call result after → IsStable (first_state d)
stable_first caller moment call d result after same h =
    stable (first_state d) (sound_opened d.settings d.opening (subst AreSound same.opening h.of_ledger.sound))

pub own_rows_of : (caller moment : ℕ) (call : Call) (d : DeskValue) (result : Result Reply Fault) (after : DeskValue) → IsSameDesk d after → Answers caller d moment call result after
    → IsByOwnRows (state d) moment call result
own_rows_of caller moment call d (Ok reply) after same h = by_own_rows (state d) moment call reply (sound_run (first_state d) d.log (stable_first caller moment call d (Ok reply) after same h)) h.ends.1
own_rows_of caller moment call d (Err fault) after same h = fault_by_own_rows (state d) moment call fault

pub others_aside_of : (caller moment : ℕ) (call : Call) (d : DeskValue) (result : Result Reply Fault) (after : DeskValue) → IsSameDesk d after → Answers caller d moment call result after
    → IsAsWithoutOthers (first_state d) d.log moment call result
others_aside_of caller moment call d (Ok reply) after same h = as_without_others (first_state d) d.log moment call reply (stable_first caller moment call d (Ok reply) after same h) h.ends.1
others_aside_of caller moment call d (Err fault) after same h = fault_without_others (first_state d) d.log moment call fault (stable_first caller moment call d (Err fault) after same h)
