-- The calls that the fields of a line spell which ask for the numbers of a day.
use Rattle.std.specs.Prelude.{ℕ, List, [], ◌∷◌, Option, Some, None}
use Rattle.desk_types.specs.declared.call.Call.{Call}
use Rattle.desk_types.specs.declared.call.Call.TheVariants.{HostReport, Report, Shown}
use Rattle.desk_io.specs.Number.{number}

-- `D`
abbrev pub host_from : Option ℕ → Option Call
host_from (Some day) = Some (HostReport day)
host_from None = None

abbrev pub host_call : List (List ℕ) → Option Call
host_call (day ∷ []) = host_from (number day)
host_call _ = None

-- `A KEY D`
abbrev pub report_from : List ℕ → Option ℕ → Option ℕ → Option Call
report_from key (Some account) (Some day) = Some (Report account key day)
report_from key _ _ = None

abbrev pub report_call : List (List ℕ) → Option Call
report_call (account ∷ key ∷ day ∷ []) = report_from key (number account) (number day)
report_call _ = None

-- `A KEY D N`
abbrev pub shown_from : List ℕ → Option ℕ → Option ℕ → Option ℕ → Option Call
shown_from key (Some account) (Some day) (Some from) = Some (Shown account key day from)
shown_from key _ _ _ = None

abbrev pub shown_call : List (List ℕ) → Option Call
shown_call (account ∷ key ∷ day ∷ from ∷ []) = shown_from key (number account) (number day) (number from)
shown_call _ = None
