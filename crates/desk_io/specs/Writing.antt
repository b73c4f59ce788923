-- What a write gives to a sink that may tell what it took.
use Rattle.std.specs.Prelude.{◌≡◌, ◌≢◌, ℕ, ◌+◌, ◌-◌, ◌^◌, ◌≤◌, min, List, [], ◌++◌, length, take}
use Rattle.std.specs.Option.{option_map}
use Rattle.desk_io.specs.Faults.{Rose}
use Rattle.desk_io.specs.SinkView.{SinkView}
use Rattle.desk_io.specs.declared.sink.Put.{Put}
use Rattle.desk_io.specs.declared.sink.Put.TheVariants.{Took, Failed}

-- the bytes are appended to what was written and added to the number taken, where the sink tells them
pub record Appends (sink sink_now : SinkView) (bytes : List ℕ) : Type 0 where
  pub appended : sink_now.written ≡ option_map (λ before. before ++ bytes) sink.written
  pub counted : sink_now.taken ≡ option_map (λ before. min (before + length bytes) (2 ^ 64 - 1)) sink.taken

-- nothing is appended
pub record AppendsNothing (sink sink_now : SinkView) : Type 0 where
  pub nothing_written : sink_now.written ≡ sink.written
  pub nothing_taken : sink_now.taken ≡ sink.taken

-- a list is the beginning of another, and not all of it
abbrev pub IsProperPrefix : List ℕ → List ℕ → Type 0
IsProperPrefix part whole = (rest : List ℕ) × (whole ≡ part ++ rest) × (rest ≢ [])

-- a list is the beginning of another, or all of it
abbrev pub IsPrefix : List ℕ → List ℕ → Type 0
IsPrefix part whole = (rest : List ℕ) × (whole ≡ part ++ rest)

-- a write takes from one byte up to all of them
abbrev pub WritesWithin : Put → ℕ → Type 0
WritesWithin (Took n) given = (1 ≤ n) × (n ≤ given)
WritesWithin Failed given = Unit {0}

-- a write appends the first bytes; a failure appends nothing
abbrev pub Writes : SinkView → SinkView → Put → List ℕ → Type 0
Writes sink sink_now (Took n) bytes = Appends sink sink_now (take n bytes)
Writes sink sink_now Failed bytes = AppendsNothing sink sink_now

-- a write fails only where the count of faults rose
abbrev pub WriteCause : ℕ → ℕ → Put → Type 0
WriteCause before now (Took n) = Unit {0}
WriteCause before now Failed = Rose before now
