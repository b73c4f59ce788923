use Rattle.std.proofs.Common.{subst, sym}
use Rattle.placements.specs.PlacementsValue.{AreShownInTurn}
use Rattle.desk_core.proofs.Opened.{shown_in_turn}
use Rattle.desk_core.proofs.ledger.Ledger.load.Goals as goal

pub load-requires-2 : goal.load-requires-2
load-requires-2 c = record { in_turn = subst AreShownInTurn (sym c.in_ok-twin.ensures) (shown_in_turn c.args.tables.now c.requires.sound) }
