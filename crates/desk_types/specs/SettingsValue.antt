-- Settings as contracts see them, and the ranges of their numbers.
use Rattle.std.specs.Prelude.{ℕ, ◌≤◌}
use Rattle.auction_types.specs.declared.limits.TheConstants.{FLOOR_MAX, PLACES_MAX}
use Rattle.desk_types.specs.declared.limits.TheConstants.{PLACES_USUAL, RESERVE_USUAL, JOURNAL_MAX, JOURNAL_USUAL, JOURNAL_BYTES_MAX, PLACEMENTS_MAX, PLACEMENTS_USUAL}
use Rattle.auction_types.specs.AdValue.{IsBid}

-- the settings of a desk
pub record SettingsValue : Type 0 where
  pub reserve : ℕ
  pub floor : ℕ
  pub places : ℕ
  pub journal : ℕ
  pub journal_bytes : ℕ
  pub placements : ℕ

-- a reserve, in cents per click, is in the range of bids
abbrev pub IsReserve : ℕ → Type 0
IsReserve reserve = IsBid reserve

-- a floor: a least score
abbrev pub IsFloor : ℕ → Type 0
IsFloor floor = floor ≤ FLOOR_MAX

-- a number of places of a page
abbrev pub IsPlaces : ℕ → Type 0
IsPlaces places = (1 ≤ places) × (places ≤ PLACES_MAX)

-- a most number of entries, of bytes of texts, and of placements
abbrev pub IsJournal : ℕ → Type 0
IsJournal entries = (1 ≤ entries) × (entries ≤ JOURNAL_MAX)

abbrev pub IsJournalBytes : ℕ → Type 0
IsJournalBytes bytes = (1 ≤ bytes) × (bytes ≤ JOURNAL_BYTES_MAX)

abbrev pub IsPlacements : ℕ → Type 0
IsPlacements placements = (1 ≤ placements) × (placements ≤ PLACEMENTS_MAX)

-- each setting is in its range
pub record AreInRange (s : SettingsValue) : Type 0 where
  pub reserve_in : IsReserve s.reserve
  pub floor_in : IsFloor s.floor
  pub places_in : IsPlaces s.places
  pub journal_in : IsJournal s.journal
  pub journal_bytes_in : IsJournalBytes s.journal_bytes
  pub placements_in : IsPlacements s.placements

-- the usual settings
abbrev pub usual : SettingsValue
usual = record {
  reserve = RESERVE_USUAL;
  floor = 0;
  places = PLACES_USUAL;
  journal = JOURNAL_USUAL;
  journal_bytes = JOURNAL_BYTES_MAX;
  placements = PLACEMENTS_USUAL;
}
