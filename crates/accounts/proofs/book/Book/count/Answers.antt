use Rattle.std.proofs.Common.{◌≡◌, ℕ, ◌==◌, List, filter, flat_map, length, sym, subst, ap, ◌∙◌, arith}
use Rattle.std.specs.List.{range_with_len}
use Rattle.std.proofs.lemmas.List.{length-map}
use Rattle.desk_types.specs.declared.rows.Campaign.{Campaign}
use Rattle.desk_types.specs.declared.rows.Line.{Line}
use Rattle.accounts.specs.BookValue.{BookValue, ShelfValue}
use Rattle.accounts.proofs.Shelves.{campaigns_joined, lines_joined}
use Rattle.accounts.proofs.book.Book.count.Goals as goal

pub returns-clause-campaigns : goal.returns-clause-campaigns
returns-clause-campaigns c =
    let gs : List ShelfValue = c.self.inside.shelves.items in
    let joined = λ (b : BookValue) (n : ℕ). b.tables.campaigns ≡ flat_map (λ account. filter (λ (k : Campaign). k.account == account) b.tables.campaigns) (range_with_len 1 n) in
    let accounts : length c.args.self.now.tables.accounts ≡ length gs = ap (λ (b : BookValue). length b.tables.accounts) (sym c.self.view_is) ∙ length-map gs (λ (s : ShelfValue). s.account) in
    let count : length c.args.self.now.tables.accounts ≡ c.len.result = omega (arith, accounts, c.len.ensures, c.self.inside.shelves.ok.0) in
    subst (joined c.args.self.now) count (subst (λ (b : BookValue). joined b (length b.tables.accounts)) c.self.view_is (campaigns_joined gs c.self.invariant))

pub returns-clause-lines : goal.returns-clause-lines
returns-clause-lines c =
    let gs : List ShelfValue = c.self.inside.shelves.items in
    let joined = λ (b : BookValue) (n : ℕ). b.tables.lines ≡ flat_map (λ account. filter (λ (l : Line). l.account == account) b.tables.lines) (range_with_len 1 n) in
    let accounts : length c.args.self.now.tables.accounts ≡ length gs = ap (λ (b : BookValue). length b.tables.accounts) (sym c.self.view_is) ∙ length-map gs (λ (s : ShelfValue). s.account) in
    let count : length c.args.self.now.tables.accounts ≡ c.len.result = omega (arith, accounts, c.len.ensures, c.self.inside.shelves.ok.0) in
    subst (joined c.args.self.now) count (subst (λ (b : BookValue). joined b (length b.tables.accounts)) c.self.view_is (lines_joined gs c.self.invariant))
