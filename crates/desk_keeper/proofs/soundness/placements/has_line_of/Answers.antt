use Rattle.std.proofs.Common.{sym, ap, subst, ◌∙◌, ◌==◌, ◌&&◌}
use Rattle.std.specs.List.{list_any}
use Rattle.desk_types.specs.declared.rows.Line.{Line}
use Rattle.desk_types.specs.Keys.{line_key}
use Rattle.desk_types.specs.Sound.{AreInOrder}
use Rattle.desk_keeper.proofs.KeptTables.{own_lines}
use Rattle.desk_keeper.proofs.PlacementRules.{line_missing, line_there}
use Rattle.desk_keeper.proofs.soundness.placements.has_line_of.Goals as goal

pub find_own-requires : goal.find_own-requires
find_own-requires c = record {
  in_order = subst (AreInOrder line_key) (sym c.as_slice.ensures) (own_lines c.args.tables.now c.args.tables.now.lines c.requires.lines).in_order;
}

pub returns-in-None : goal.returns-in-None
returns-in-None c =
    let row = c.args.row.now in
    sym (ap (list_any (λ (l : Line). l.account == row.account && (l.number == row.line && l.campaign == row.campaign))) (sym c.as_slice.ensures)
    ∙ line_missing row.account row.line row.campaign c.as_slice.result.now (sym c.in-None.ensures))

pub returns-in-Some : goal.returns-in-Some
returns-in-Some c =
    let row = c.args.row.now in
    let order = subst (AreInOrder line_key) (sym c.as_slice.ensures) (own_lines c.args.tables.now c.args.tables.now.lines c.requires.lines).in_order in
    sym (ap (list_any (λ (l : Line). l.account == row.account && (l.number == row.line && l.campaign == row.campaign))) (sym c.as_slice.ensures)
    ∙ line_there row.account row.line row.campaign c.as_slice.result.now c.in-Some.line.now order (sym c.in-Some.ensures))
