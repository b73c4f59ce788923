use Rattle.std.proofs.Common.{sym, ap, subst, ◌∙◌}
use Rattle.desk_types.specs.declared.rows.Line.{Line}
use Rattle.desk_types.specs.declared.tables.Change.TheVariants.{PutLine}
use Rattle.desk_types.specs.Tables.{put}
use Rattle.accounts.specs.AtHome.{HasOwner, IsAtHome}
use Rattle.accounts.proofs.LoadedRows.{line_read}
use Rattle.accounts.proofs.book.Book.load_lines.Goals as goal

pub add-requires-clause-owner : goal.add-requires-clause-owner
add-requires-clause-owner c =
    let read = line_read c.args.tables.now c.loop-row.self.tables c.as_slice-row-items.result.now c.loop-row.row-index c.row-item.result c.requires.sound c.as_slice-row-items.ensures c.loop-row.invariant c.loop-row-test.true in
    subst (λ (row : Line). HasOwner c.loop-row.self.tables (PutLine row)) (sym (c.in_ok-twin.ensures ∙ c.row-item.is)) read.0

pub add-requires-clause-at_home : goal.add-requires-clause-at_home
add-requires-clause-at_home c =
    let read = line_read c.args.tables.now c.loop-row.self.tables c.as_slice-row-items.result.now c.loop-row.row-index c.row-item.result c.requires.sound c.as_slice-row-items.ensures c.loop-row.invariant c.loop-row-test.true in
    subst (λ (row : Line). IsAtHome c.loop-row.self.tables (PutLine row)) (sym (c.in_ok-twin.ensures ∙ c.row-item.is)) read.1

pub loop-row-preserved : goal.loop-row-preserved
loop-row-preserved c =
    let read = line_read c.args.tables.now c.loop-row.self.tables c.as_slice-row-items.result.now c.loop-row.row-index c.row-item.result c.requires.sound c.as_slice-row-items.ensures c.loop-row.invariant c.loop-row-test.true in
    c.in_ok-add.ensures ∙ ap (λ (row : Line). put c.loop-row.self.tables (PutLine row)) (c.in_ok-twin.ensures ∙ c.row-item.is) ∙ read.2
