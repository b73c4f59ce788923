use Rattle.std.proofs.Common.{not, sym, ap, ◌∙◌}
use Rattle.accounts.specs.BookValue.{ShelfValue}
use Rattle.accounts.proofs.Asking.{active_account, inactive_account}
use Rattle.accounts.proofs.book.Book.is_active_account.Goals as goal

pub returns-in-Some : goal.returns-in-Some
returns-in-Some c =
    ap (λ (s : ShelfValue). not s.account.suspended) c.shelf-in-Some.view_is ∙ sym (active_account c.args.self.now.tables c.args.account c.in-Some.shelf.now c.in-Some.ensures)

pub returns-in-None : goal.returns-in-None
returns-in-None c = sym (inactive_account c.args.self.now.tables c.args.account c.in-None.ensures)
