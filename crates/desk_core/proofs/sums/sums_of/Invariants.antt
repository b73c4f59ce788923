use Rattle.std.proofs.Common.{◌≡◌, ◌+◌, length}
use Rattle.desk_core.specs.Sums.{AreOf, both, sums_of}
use Rattle.desk_core.proofs.sums.sums_of.Given as goal

abbrev pub invariant-loop-placement : goal.invariant-loop-placement
invariant-loop-placement l =
    let of = sums_of l.of.account l.of.campaign l.of.day l.moment in
    (both l.sums (of l.placement-iterator) ≡ of l.fn.placements)
    × AreOf (length l.yielded) l.sums
    × (length l.yielded + length l.placement-iterator ≡ length l.fn.placements)
