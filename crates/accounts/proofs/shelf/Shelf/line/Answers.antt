use Rattle.std.proofs.Common.{◌≡◌, ◌-◌, ◌≤◌, List, length, get_or, MatchOption, ap, subst, ◌∙◌}
use Rattle.accounts.specs.BookValue.{ShelfValue}
use Rattle.desk_types.specs.declared.rows.Line.{Line}
use Rattle.accounts.proofs.Finds.{line_found, copied_numbered}
use Rattle.accounts.proofs.shelf.Shelf.line.Goals as goal

pub returns : goal.returns
returns c = λ T account h.
    let same = c.as_slice.ensures ∙ ap (λ (s : ShelfValue). s.lines) c.self.view_is in
    copied_numbered (λ (x : Line). x.number) c.args.self.now.lines c.args.number c.row_of.result h.is.lines
    (subst (λ (rows : List Line). MatchOption c.row_of.result (1 ≤ c.args.number → c.args.number ≤ length rows → ⊥)
    (λ row. (1 ≤ c.args.number) × (c.args.number ≤ length rows) × (row.now ≡ get_or rows (c.args.number - 1) row.now))) same c.row_of.ensures)
    ∙ line_found T account c.args.number c.args.self.now h
