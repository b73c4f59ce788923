use Rattle.std.proofs.Common.{◌≡◌, All, IsTrue, take}
use Rattle.auction_types.specs.Order.{better}
use Rattle.rank_core.proofs.top.ahead_of.Given as goal

abbrev pub invariant-loop-other : goal.invariant-loop-other
invariant-loop-other l =
    (l.ahead ≡ l.other-index) × All (λ other. IsTrue (better other l.ad)) (take l.other-index l.leading)
