-- A journal as contracts see it.
use Rattle.std.specs.Prelude.{◌≡◌, ℕ, ◌≤◌, List, Option, Some, None}
use Rattle.desk_types.specs.declared.entry.Entry.{Entry}
use Rattle.desk_types.specs.declared.call.Call.{Call}
use Rattle.desk_types.specs.declared.entry.Outcome.{Outcome}
use Rattle.desk_types.specs.Journal.{IsLegal, bytes_of}
use Rattle.desk_types.specs.Serving.{with_entry}
use Rattle.desk_types.specs.SettingsValue.{SettingsValue}

-- the settings, the entries, and how many more there is room for without memory
pub record JournalValue : Type 0 where
  pub settings : SettingsValue
  pub entries : List Entry
  pub spare : ℕ

-- the entries are a legal journal, and these are the bytes of its calls
pub record IsLegalJournal (settings : SettingsValue) (entries : List Entry) (bytes : ℕ) : Type 0 where
  pub legal : IsLegal settings entries
  pub counted : bytes ≡ bytes_of entries

-- the journal is as it was, with at least as much room
pub record IsWithMoreRoom (before after : JournalValue) : Type 0 where
  pub settings : after.settings ≡ before.settings
  pub entries : after.entries ≡ before.entries
  pub spare : before.spare ≤ after.spare

-- the entries with that of a call that ended so, where there is one
abbrev pub with_ended : ℕ → List Entry → ℕ → Call → Option Outcome → List Entry
with_ended caller entries moment call (Some outcome) = with_entry caller entries moment call outcome
with_ended caller entries moment call None = entries
