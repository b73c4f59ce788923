use Rattle.desk_keeper.proofs.Climbing.{Climbs}
use Rattle.desk_keeper.proofs.slots.are_in_order.Given as goal

-- the rows so far climb
abbrev pub invariant-loop-place : goal.invariant-loop-place
invariant-loop-place g l = Climbs g.R.Keyed.key l.rows l.place
