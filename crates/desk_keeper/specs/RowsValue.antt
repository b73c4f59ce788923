-- Tables with room for more rows.
use Rattle.std.specs.Prelude.{ℕ, List, Option, None, Some}
use Rattle.desk_types.specs.declared.rows.Fate.{Fate}
use Rattle.desk_types.specs.declared.rows.Placement.{Placement}
use Rattle.desk_types.specs.declared.tables.Tables.{Tables}
use Rattle.desk_types.specs.Keys.{placement_key}
use Rattle.desk_types.specs.Tables.{put_row}

-- the tables, and how many more rows there is room for in each without memory
pub record RowsValue : Type 0 where
  pub tables : Tables
  pub room : ℕ

-- the placements with this fate of the one that is found
abbrev pub with_fate : Fate → Option Placement → List Placement → List Placement
with_fate fate None rows = rows
with_fate fate (Some p) rows = put_row placement_key (record p { fate = fate }) rows
