use Rattle.std.proofs.Common.{◌≡◌, map, take}
use Rattle.desk_types.specs.Opening.{greatest}
use Rattle.drill_calls.proofs.answer.greatest_of.Given as goal

-- the greatest placement so far
abbrev pub invariant-loop-spot : goal.invariant-loop-spot
invariant-loop-spot l = l.greatest ≡ greatest (map (λ spot. spot.placement) (take l.spot-index l.spots))
