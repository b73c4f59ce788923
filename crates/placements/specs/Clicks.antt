-- What a click does, and the rows with a fate.
use Rattle.std.specs.Prelude.{ℕ, Bool, true, false, ◌==◌, if◌then◌else◌, List, find, Option, None, Some}
use Rattle.desk_types.specs.declared.rows.Fate.{Fate}
use Rattle.desk_types.specs.declared.rows.Fate.TheVariants as fate
use Rattle.desk_types.specs.declared.rows.Placement.{Placement}
use Rattle.desk_types.specs.Keys.{placement_key}
use Rattle.desk_types.specs.Money.{is_escrowed}
use Rattle.desk_types.specs.Tables.{put_row}
use Rattle.placements.specs.declared.clicked.Clicked.{Clicked}
use Rattle.placements.specs.declared.clicked.Clicked.TheVariants.{Unknown, Settles, Same}

-- the placement of a number, if there is one
abbrev pub found : ℕ → List Placement → Option Placement
found number rows = find (λ p. p.number == number) rows

-- a click settles a placement whose price is escrowed
abbrev pub clicked : ℕ → Option Placement → Clicked
clicked moment None = Unknown
clicked moment (Some p) = if is_escrowed moment p then Settles else Same

-- whether a fate is that of a settled placement
abbrev pub is_settled_fate : Fate → Bool
is_settled_fate fate.Open = false
is_settled_fate (fate.Settled at) = true
is_settled_fate (fate.Credited settled credited) = false

-- whether a click settled a placement that is there, and the host has not credited it
abbrev pub is_settled : Option Placement → Bool
is_settled None = false
is_settled (Some p) = is_settled_fate p.fate

-- the rows with this fate of the placement that is found
abbrev pub fated : Fate → Option Placement → List Placement → List Placement
fated fate None rows = rows
fated fate (Some p) rows = put_row placement_key (record p { fate = fate }) rows
