-- How the placements of an account are found: each row has the number of the one before it of its account.
use Rattle.std.specs.Prelude.{◌≡◌, ℕ, ◌-◌, ◌<◌, ◌≤◌, Bool, true, false, ◌==◌, ◌&&◌, List, length, slice_index, slice_index_or}
use Rattle.std.specs.List.{AllWithin}
use Rattle.desk_types.specs.declared.rows.Placement.{Placement}
use Rattle.desk_types.specs.Day.{day_of}
use Rattle.placements.specs.PlacementsValue.{AreShownInTurn}

-- whether a placement is of this account
abbrev pub is_of : ℕ → Placement → Bool
is_of account p = p.account == account

-- whether it is, and was shown on this day
abbrev pub is_of_day : ℕ → ℕ → Placement → Bool
is_of_day account day p = p.account == account && day_of p.shown == day

-- the row of this number passes the test; there is none where the number is 0
pub record IsThere (test : Placement → Bool) (number : ℕ) (rows : List Placement) : Type 0 where
  pub within : number ≤ length rows
  pub passes : 0 < number → (d : Placement) → test (slice_index_or rows (number - 1) d) ≡ true

-- it is the last of the first `bound` rows that pass the test, or 0 where none of them does
pub record IsLast (test : Placement → Bool) (number bound : ℕ) (rows : List Placement) : Type 0 where
  pub within : number ≤ bound
  pub passes : 0 < number → (d : Placement) → test (slice_index_or rows (number - 1) d) ≡ true
  pub none_behind : AllWithin (λ p. test p ≡ false) rows number bound

-- each row has the number of the last one before it of its account
pub record AreLinked (rows : List Placement) (before : List ℕ) : Type 0 where
  pub count : length before ≡ length rows
  pub each : (k : ℕ) (d : Placement) → k < length rows
      → IsLast (is_of (slice_index_or rows k d).account) (slice_index before k) k rows

-- what is kept of placements: the rows, for each the number of the one before it of its account, and the last of each
pub record AreKept (rows : List Placement) (before : List ℕ) (last : ℕ → ℕ) : Type 0 where
  pub in_turn : AreShownInTurn rows
  pub linked : AreLinked rows before
  pub lasts : (account : ℕ) → IsLast (is_of account) (last account) (length rows) rows
