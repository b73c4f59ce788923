-- A keeper as contracts see it.
use Rattle.std.specs.Prelude.{ℕ, Bool, Option}
use Rattle.desk_types.specs.declared.tables.Tables.{Tables}

-- the tables that it holds, where it tells them, its count of faults, whether setting one fate takes no memory, and
-- whether it never fails
pub record KeeperView : Type 0 where
  pub held : Option Tables
  pub faults : ℕ
  pub fates_free : Bool
  pub sure : Bool
