-- Which lists of entries a journal may have, and when it is full.
use Rattle.std.specs.Prelude.{◌≡◌, ℕ, ◌+◌, ◌-◌, ◌^◌, ◌<◌, ◌≤◌, ◌⊎◌, Bool, ◌==◌, ◌||◌, nat_lt, nat_le, List, filter, map, length, sum_by, count_by, All, AllPairs, ⊤}
use Rattle.std.specs.List.{range_with_len}
use Rattle.desk_types.specs.declared.call.Call.{Call}
use Rattle.desk_types.specs.declared.entry.Entry.{Entry}
use Rattle.desk_types.specs.declared.entry.Outcome.{Outcome}
use Rattle.desk_types.specs.declared.entry.Outcome.TheVariants.{Answered, Faulted}
use Rattle.desk_types.specs.SettingsValue.{SettingsValue}
use Rattle.desk_types.specs.Weight.{weight}

-- how many entries are the caller's
abbrev pub entries_of : ℕ → List Entry → ℕ
entries_of caller entries = count_by (λ e. e.caller == caller) entries

-- the bytes of the journal: the weights of its calls together
abbrev pub bytes_of : List Entry → ℕ
bytes_of entries = sum_by (λ e. weight e.call) entries

-- a count of faults rose, or stands at its last value
abbrev pub IsRise : ℕ → ℕ → Type 0
IsRise before after = (before < after) ⊎ ((before ≡ 2 ^ 64 - 1) × (after ≡ 2 ^ 64 - 1))

-- a fault comes with a count that rose
abbrev pub HasRise : Outcome → Type 0
HasRise Answered = ⊤
HasRise (Faulted before after) = IsRise before after

-- of two faults the later one's count begins where the earlier one's ended, or above
abbrev pub IsBefore : Outcome → Outcome → Type 0
IsBefore (Faulted before after) (Faulted next last) = after ≤ next
IsBefore Answered later = ⊤
IsBefore (Faulted before after) Answered = ⊤

-- the list may be a journal under these settings
pub record IsLegal (settings : SettingsValue) (entries : List Entry) : Type 0 where
  pub numbered : (caller : ℕ) →
      map (λ e. e.number) (filter (λ e. e.caller == caller) entries) ≡ range_with_len 1 (entries_of caller entries)
  pub faults_rise : All (λ e. HasRise e.outcome) entries
  pub faults_in_order : AllPairs (λ earlier later. IsBefore earlier.outcome later.outcome) entries
  pub entries_fit : length entries ≤ settings.journal
  pub bytes_fit : bytes_of entries ≤ settings.journal_bytes

-- whether a journal has no room for the call
unfoldable pub is_full : SettingsValue → List Entry → Call → Bool
is_full settings entries call =
    nat_le settings.journal (length entries) || nat_lt settings.journal_bytes (bytes_of entries + weight call)
