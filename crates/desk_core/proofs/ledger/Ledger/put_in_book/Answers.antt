use Rattle.std.proofs.Common.{sym, ap, ◌∙◌}
use Rattle.desk_types.specs.Tables.{put_all}
use Rattle.desk_core.specs.LedgerValue.{LedgerValue}
use Rattle.desk_core.specs.contracts.ledger.Ledger.{the_view}
use Rattle.desk_core.proofs.Besides.{book_can_put, put_all_beside, with}
use Rattle.desk_core.proofs.ledger.Ledger.put_in_book.Goals as goal

pub put_all-requires-clause-at_home : goal.put_all-requires-clause-at_home
put_all-requires-clause-at_home c =
    let ledger = c.self.inside in
    (book_can_put ledger.book.tables c.args.self.now.state.tables ledger.placements.rows c.args.list (ap (λ (V : LedgerValue). V.state.tables) c.self.view_is) c.requires.can_be_put).at_home

pub returns : goal.returns
returns c =
    let ledger = c.self.inside in
    let ps = ledger.placements.rows in
    let home = (book_can_put ledger.book.tables c.args.self.now.state.tables ps c.args.list (ap (λ (V : LedgerValue). V.state.tables) c.self.view_is) c.requires.can_be_put).at_home in
    ap (λ T. record (the_view ledger).state { tables = T }) (ap (λ T. with T ps) c.put_all.ensures ∙ sym (put_all_beside ledger.book.tables ps c.args.list home))
    ∙ ap (λ (V : LedgerValue). record V.state { tables = put_all V.state.tables c.args.list }) c.self.view_is
