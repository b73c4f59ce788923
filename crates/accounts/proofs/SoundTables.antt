-- What sound tables are known for.
use Rattle.std.proofs.Common.{arith}
use Rattle.desk_types.specs.declared.tables.Tables.{Tables}
use Rattle.desk_types.specs.Opening.{opened}
use Rattle.desk_types.specs.Rules.{AreSound}
use Rattle.desk_types.specs.SettingsValue.{usual}
use Rattle.desk_types.specs.Sound.{StandInOrder}
use Rattle.desk_types.proofs.KeptFromRules.{kept_from, latest_in}

pub order_of : (T : Tables) → AreSound T → StandInOrder T
order_of T h = (kept_from (opened usual T) h (omega arith) (latest_in T h)).almost.in_order
