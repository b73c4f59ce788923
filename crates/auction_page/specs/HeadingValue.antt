-- The heading of an auction as contracts see it.
use Rattle.std.specs.Prelude.{ℕ}
use Rattle.desk_types.specs.SettingsValue.{IsReserve, IsFloor, IsPlaces}

-- the reserve in cents, the floor as a score, and the number of places
pub record HeadingValue : Type 0 where
  pub reserve : ℕ
  pub floor : ℕ
  pub places : ℕ

-- a heading with each number in range
abbrev pub IsHeading : HeadingValue → Type 0
IsHeading h = IsReserve h.reserve × IsFloor h.floor × IsPlaces h.places
