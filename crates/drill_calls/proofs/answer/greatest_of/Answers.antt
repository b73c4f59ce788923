use Rattle.std.proofs.Common.{arith, ap}
use Rattle.desk_types.specs.declared.reply.Spot.{Spot}
use Rattle.desk_types.proofs.Openings.{greatest-then}
use Rattle.drill_calls.proofs.answer.greatest_of.Goals as goal

pub loop-spot-preserved : goal.loop-spot-preserved
loop-spot-preserved c =
    omega (arith, c.max-greatest.ensures, c.loop-spot.invariant, ap (λ (s : Spot). s.placement) c.spot-item.is, greatest-then (λ (s : Spot). s.placement) c.args.spots.now c.loop-spot.spot-index c.spot-item.result c.loop-spot-test.true)
