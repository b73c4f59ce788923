use Rattle.std.proofs.Common.{◌≡◌, length, ap, arith}
use Rattle.placements.specs.Linked.{is_of_day}
use Rattle.placements.specs.PlacementsValue.{PlacementsValue}
use Rattle.placements.proofs.Left.{left_first, left_le}
use Rattle.placements.proofs.placements.Placements.shown_on.Goals as goal

pub invariant_of-result : goal.invariant_of-result
invariant_of-result c =
    let rows = c.args.self.now.rows in
    let h = c.on_day.ensures c.args.account (length rows) (omega arith) c.last_of-last.ensures in
    record { within = h.within; passes = h.passes }

pub returns-clause-list : goal.returns-clause-list
returns-clause-list c =
    let rows = c.args.self.now.rows in
    left_first (is_of_day c.args.account c.args.day) c.on_day.result rows (c.on_day.ensures c.args.account (length rows) (omega arith) c.last_of-last.ensures)

pub returns-clause-below : goal.returns-clause-below
returns-clause-below c =
    let few = left_le (is_of_day c.args.account c.args.day) c.on_day.result c.args.self.now.rows in
    let count : length c.self.inside.rows.items ≡ length c.args.self.now.rows = ap (λ (V : PlacementsValue). length V.rows) c.self.view_is in
    omega (arith, few, count, c.self.inside.rows.ok.0, c.self.inside.rows.ok.1, c.self.inside.rows.small)
