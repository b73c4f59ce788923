use Rattle.std.proofs.Common.{List}
use Rattle.accounts.specs.BookValue.{ShelfValue}
use Rattle.accounts.proofs.Shelves.{has_shelf, has_no_shelf, match-mono}
use Rattle.accounts.proofs.book.Book.shelf.Goals as goal

-- src/book.rt:48:5
pub returns : goal.returns
returns c =
    let gs : List ShelfValue = c.self.inside.shelves.items in
    let n = c.args.account in
    rw (← c.self.view_is) (match-mono c.row_of.result _ _ _ _
    (λ none. has_no_shelf gs n c.self.invariant (rw (← c.deref.ensures.value) none))
    (λ s h. has_shelf gs n s.now c.self.invariant h.0 (rw (← c.deref.ensures.value) h.1) (rw (← c.deref.ensures.value) h.2))
    c.row_of.ensures)
