use Rattle.std.proofs.Common.{◌≡◌, ◌+◌, ◌*◌, ◌^◌, ◌≤◌, ℕ, List, filter, length, sum_by}
use Rattle.desk_types.specs.declared.rows.Placement.{Placement}
use Rattle.desk_types.specs.Rules.{is_charged}
use Rattle.desk_core.proofs.money.charged.Given as goal

abbrev pub invariant-loop-placement : goal.invariant-loop-placement
invariant-loop-placement l =
    let charges : List Placement → ℕ = λ placements. sum_by (λ p. p.price) (filter (is_charged l.of.account l.of.campaign l.of.day l.moment) placements) in
    (l.sum + charges l.placement-iterator ≡ charges l.fn.placements)
    × (l.sum ≤ 2 ^ 64 * length l.yielded)
    × (length l.yielded + length l.placement-iterator ≡ length l.fn.placements)
