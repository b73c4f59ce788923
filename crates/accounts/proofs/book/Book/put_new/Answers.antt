use Rattle.std.proofs.Common.{◌≡◌, ◌∙◌, List, length, sym, subst, ap, arith}
use Rattle.accounts.specs.AtHome.{IsAtHome}
use Rattle.accounts.specs.BookValue.{BookValue, ShelfValue}
use Rattle.std.proofs.lemmas.List.{length-map}
use Rattle.accounts.proofs.Committing.{IsNextAccount, home_new, next_puts_account}
use Rattle.accounts.proofs.book.Book.put_new.Goals as goal

pub push-requires-clause-next : goal.push-requires-clause-next
push-requires-clause-next c =
    let gs : List ShelfValue = c.self.inside.shelves.items in
    let count : length c.args.self.now.tables.accounts ≡ length gs = ap (λ (b : BookValue). length b.tables.accounts) (sym c.self.view_is) ∙ length-map gs (λ (s : ShelfValue). s.account) in
    let home = subst (λ (b : BookValue). IsAtHome b.tables c.args.change) (sym c.self.view_is) c.requires.at_home in
    let next = subst (IsNextAccount (length gs)) c.in-PutAccount.is (home_new gs c.args.change c.self.invariant home (omega (arith, c.requires.new, count))) in
    omega (arith, next, count)

pub unreachable-requires : goal.unreachable-requires
unreachable-requires c =
    let gs : List ShelfValue = c.self.inside.shelves.items in
    let count : length c.args.self.now.tables.accounts ≡ length gs = ap (λ (b : BookValue). length b.tables.accounts) (sym c.self.view_is) ∙ length-map gs (λ (s : ShelfValue). s.account) in
    let home = subst (λ (b : BookValue). IsAtHome b.tables c.args.change) (sym c.self.view_is) c.requires.at_home in
    next_puts_account (length gs) c.args.change (home_new gs c.args.change c.self.invariant home (omega (arith, c.requires.new, count))) c.in_default.not-PutAccount
