use Rattle.std.proofs.Common.{◌+◌, ◌-◌, ◌<◌, ◌==◌, ◌&&◌, find, is_some, length, refl, subst, sym, ap, ◌∙◌, arith}
use Rattle.desk_types.specs.declared.rows.Line.{Line}
use Rattle.desk_types.specs.Keys.{line_key}
use Rattle.desk_types.specs.Sound.{AreInOrder}
use Rattle.desk_keeper.proofs.BatchLines.{batch_beyond, both_decide, not_below}
use Rattle.desk_keeper.proofs.KeptTables.{own_lines}
use Rattle.desk_keeper.proofs.soundness.batches.has_lines_of.Goals as goal

pub has_line-requires : goal.has_line-requires
has_line-requires c = subst (AreInOrder line_key) (sym c.as_slice-lines.ensures) (own_lines c.args.tables.now c.args.tables.now.lines c.requires.lines).in_order

pub has_line-requires-then-has_line : goal.has_line-requires-then-has_line
has_line-requires-then-has_line c = subst (AreInOrder line_key) (sym c.as_slice-lines.ensures) (own_lines c.args.tables.now c.args.tables.now.lines c.requires.lines).in_order

pub returns-in_default : goal.returns-in_default
returns-in_default c =
    let row = c.args.row.now in
    let above = not_below (row.first + (row.count - 1)) 18446744073709551616 c.in_default.ensures in
    let bound : length c.as_slice-lines.result.now < 18446744073709551616 = c.as_slice-lines.type_inv.0 in
    let high : length c.args.tables.now.lines < row.first + (row.count - 1) = omega (arith, above, bound, ap length c.as_slice-lines.ensures) in
    sym (batch_beyond c.args.tables.now row c.requires.lines c.requires.some high)

pub returns-then-has_line : goal.returns-then-has_line
returns-then-has_line c =
    let there = c.has_line-then-has_line.result in
    ap (λ b. b && there) (sym c.if-has_line.true)
    ∙ both_decide c.args.tables.now c.args.row.now c.as_slice-lines.result.now c.in-Some.last c.has_line.result there c.requires.lines c.requires.some c.as_slice-lines.ensures c.in-Some.ensures.1 c.has_line.ensures c.has_line-then-has_line.ensures

pub returns-else-has_line : goal.returns-else-has_line
returns-else-has_line c =
    let row = c.args.row.now in
    let there = is_some (find (λ (l : Line). l.account == row.account && l.number == c.in-Some.last) c.as_slice-lines.result.now) in
    c.if-has_line.false ∙ ap (λ b. b && there) (sym c.if-has_line.false)
    ∙ both_decide c.args.tables.now row c.as_slice-lines.result.now c.in-Some.last c.has_line.result there c.requires.lines c.requires.some c.as_slice-lines.ensures c.in-Some.ensures.1 c.has_line.ensures refl
