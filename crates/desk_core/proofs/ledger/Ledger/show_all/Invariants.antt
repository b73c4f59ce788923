use Rattle.desk_core.proofs.Placements.{ArePut}
use Rattle.desk_core.proofs.ledger.Ledger.show_all.Given as goal

abbrev pub invariant-loop-placement : goal.invariant-loop-placement
invariant-loop-placement l = ArePut l.initial.self l.self l.list l.placement-index
