use Rattle.std.proofs.Common.{false, ◌∙◌}
use Rattle.desk_types.specs.declared.rows.Campaign.{Campaign}
use Rattle.accounts.proofs.LoadedRows.{campaign_read}
use Rattle.accounts.proofs.book.Book.load_campaigns.Goals as goal

pub add-requires-clause-owner : goal.add-requires-clause-owner
add-requires-clause-owner c =
    let none : Campaign = record { account = 0; number = 0; on = false } in
    (campaign_read c.args.tables.now c.loop-row.self.tables c.as_slice-row-items.result.now c.loop-row.row-index none c.requires.sound c.as_slice-row-items.ensures c.loop-row.invariant c.loop-row-test.true).0

pub add-requires-clause-at_home : goal.add-requires-clause-at_home
add-requires-clause-at_home c =
    let none : Campaign = record { account = 0; number = 0; on = false } in
    (campaign_read c.args.tables.now c.loop-row.self.tables c.as_slice-row-items.result.now c.loop-row.row-index none c.requires.sound c.as_slice-row-items.ensures c.loop-row.invariant c.loop-row-test.true).1

pub loop-row-preserved : goal.loop-row-preserved
loop-row-preserved c =
    let none : Campaign = record { account = 0; number = 0; on = false } in
    c.in_ok-add.ensures ∙ (campaign_read c.args.tables.now c.loop-row.self.tables c.as_slice-row-items.result.now c.loop-row.row-index none c.requires.sound c.as_slice-row-items.ensures c.loop-row.invariant c.loop-row-test.true).2
