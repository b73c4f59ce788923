-- One call: the state that it leads to, and the reply.
use Rattle.std.specs.Prelude.{ℕ, ◌+◌, min, max, Bool, true, false, Option, None, Some}
use Rattle.desk_types.specs.declared.limits.TheConstants.{MOMENT_MAX}
use Rattle.desk_types.specs.declared.call.Call.{Call}
use Rattle.desk_types.specs.declared.refusal.Refusal.{Refusal}
use Rattle.desk_types.specs.declared.reply.Reply.{Reply}
use Rattle.desk_types.specs.declared.reply.Reply.TheVariants.{Refused}
use Rattle.desk_types.specs.Changes.{changes, raises_edition, reply}
use Rattle.desk_types.specs.Judged.{judged}
use Rattle.desk_types.specs.State.{State}
use Rattle.desk_types.specs.Tables.{put_all}

-- a state, and the reply with which it was reached
pub record Reached : Type 0 where
  pub state : State
  pub reply : Reply

-- the state at the moment that a call is judged at: the greater of its own and the one handed in, which counts up to
-- the greatest moment
abbrev pub at_moment : State → ℕ → State
at_moment S moment = record S { moment = max S.moment (min moment MOMENT_MAX) }

-- the edition, one higher where it rises
abbrev pub next_edition : Bool → ℕ → ℕ
next_edition true edition = edition + 1
next_edition false edition = edition

-- the state after an accepted call: its changes are put
unfoldable pub accepted : State → Call → State
accepted S call = record S {
  edition = next_edition (raises_edition S call) S.edition;
  tables = put_all S.tables (changes S call);
}

-- the state and the reply of a call with this judgement: a refused one changes nothing
abbrev pub answered : State → Call → Option Refusal → Reached
answered S call (Some refusal) = record { state = S; reply = Refused refusal }
answered S call None = record { state = accepted S call; reply = reply S call }

-- one call, with the moment that is handed in
unfoldable pub step : State → ℕ → Call → Reached
step S moment call = let now = at_moment S moment in answered now call (judged now call)
