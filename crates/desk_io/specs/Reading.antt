-- What a read takes from a source that may tell what it has left.
use Rattle.std.specs.Prelude.{◌≡◌, ℕ, ◌≤◌, List, [], ◌++◌, take, Option, IfSome}
use Rattle.std.specs.Option.{option_map}
use Rattle.desk_io.specs.Faults.{Rose}
use Rattle.desk_io.specs.declared.source.Got.{Got}
use Rattle.desk_io.specs.declared.source.Got.TheVariants.{Bytes, End, Failed}

-- the bytes stood in front of what is left now, where the source tells it
abbrev pub Taken : Option (List ℕ) → Option (List ℕ) → List ℕ → Type 0
Taken before after bytes = before ≡ option_map (λ rest. bytes ++ rest) after

-- a read gives from one byte up to as many as the room holds
abbrev pub ReadsWithin : Got → ℕ → Type 0
ReadsWithin (Bytes n) room = (1 ≤ n) × (n ≤ room)
ReadsWithin End room = Unit {0}
ReadsWithin Failed room = Unit {0}

-- a read moves the first bytes that were left into the room; the end comes where none is left; a failure leaves all
abbrev pub Reads : Option (List ℕ) → Option (List ℕ) → Got → List ℕ → Type 0
Reads before after (Bytes n) room = Taken before after (take n room)
Reads before after End room = (after ≡ before) × IfSome before (λ bytes. bytes ≡ [])
Reads before after Failed room = after ≡ before

-- a read fails only where the count of faults rose
abbrev pub ReadCause : ℕ → ℕ → Got → Type 0
ReadCause before now (Bytes n) = Unit {0}
ReadCause before now End = Unit {0}
ReadCause before now Failed = Rose before now
