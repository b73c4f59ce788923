-- Sound states: what stays of them, what is kept of them, and that they stay sound.
use Rattle.std.proofs.Common.{ℕ, List, arith}
use Rattle.desk_types.specs.declared.entry.Entry.{Entry}
use Rattle.desk_types.specs.declared.tables.Tables.{Tables}
use Rattle.desk_types.specs.Opening.{opened}
use Rattle.desk_types.specs.Rules.{AreSound}
use Rattle.desk_types.specs.Run.{run}
use Rattle.desk_types.specs.SettingsValue.{AreInRange, SettingsValue}
use Rattle.desk_types.specs.Sound.{IsSound}
use Rattle.desk_types.specs.State.{State, empty}
use Rattle.desk_types.specs.Step.{at_moment}
use Rattle.desk_types.proofs.Kept.{IsKept}
use Rattle.desk_types.proofs.Keeping.{kept_empty, kept_later, kept_run}
use Rattle.desk_types.proofs.KeepingStable.{stable_of}
use Rattle.desk_types.proofs.KeptFromRules.{kept_from, latest_in}
use Rattle.desk_types.proofs.RulesFromKept.{rules_from}
use Rattle.desk_types.proofs.Stable.{IsStable}

pub kept_in : (S : State) → IsSound S → IsKept S
kept_in S h = kept_from S h.tables h.not_before h.moment

pub sound_from : (S : State) → IsKept S → IsSound S
sound_from S h = record { tables = rules_from S h; not_before = h.almost.past; moment = h.almost.moment }

pub stable : (S : State) → IsSound S → IsStable S
stable S h = stable_of S (kept_in S h).almost

pub sound_empty : (settings : SettingsValue) → IsSound (empty settings)
sound_empty settings = sound_from (empty settings) (kept_empty settings)

pub sound_run : (S : State) (entries : List Entry) → AreInRange S.settings → IsSound S → IsSound (run S entries)
sound_run S entries settings h = sound_from (run S entries) (kept_run S entries settings (kept_in S h))

pub sound_later : (S : State) (moment : ℕ) → IsSound S → IsSound (at_moment S moment)
sound_later S moment h = sound_from (at_moment S moment) (kept_later S moment (kept_in S h))

pub sound_opened : (settings : SettingsValue) (T : Tables) → AreSound T → IsSound (opened settings T)
sound_opened settings T h = record { tables = h; not_before = omega arith; moment = latest_in T h }
