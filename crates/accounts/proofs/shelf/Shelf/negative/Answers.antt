use Rattle.std.proofs.Common.{◌≡◌, ◌-◌, ◌≤◌, List, length, get_or, MatchOption, ap, subst, ◌∙◌}
use Rattle.accounts.specs.BookValue.{ShelfValue}
use Rattle.desk_types.specs.declared.rows.Negative.{Negative}
use Rattle.accounts.proofs.Finds.{negative_found, copied_numbered}
use Rattle.accounts.proofs.shelf.Shelf.negative.Goals as goal

pub returns : goal.returns
returns c = λ T account h.
    let same = c.deref.ensures.value ∙ ap (λ (s : ShelfValue). s.negatives) c.self.view_is in
    copied_numbered (λ (x : Negative). x.number) c.args.self.now.negatives c.args.number c.row_of.result h.is.negatives
    (subst (λ (rows : List Negative). MatchOption c.row_of.result (1 ≤ c.args.number → c.args.number ≤ length rows → ⊥)
    (λ row. (1 ≤ c.args.number) × (c.args.number ≤ length rows) × (row.now ≡ get_or rows (c.args.number - 1) row.now))) same c.row_of.ensures)
    ∙ negative_found T account c.args.number c.args.self.now h
