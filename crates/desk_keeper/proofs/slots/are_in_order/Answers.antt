use Rattle.std.proofs.Common.{arith}
use Rattle.desk_keeper.proofs.Climbing.{in_order_climbing}
use Rattle.desk_keeper.proofs.slots.are_in_order.Goals as goal

pub returns : goal.returns
returns g c = λ yes. in_order_climbing g.R.Keyed.key c.args.rows.now (λ k d low. c.loop-place.invariant k d (omega (arith, low, c.loop-place-test.false)))
