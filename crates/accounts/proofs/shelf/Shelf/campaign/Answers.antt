use Rattle.std.proofs.Common.{◌≡◌, ◌-◌, ◌≤◌, List, length, get_or, MatchOption, ap, subst, ◌∙◌}
use Rattle.accounts.specs.BookValue.{ShelfValue}
use Rattle.desk_types.specs.declared.rows.Campaign.{Campaign}
use Rattle.accounts.proofs.Finds.{campaign_found, copied_numbered}
use Rattle.accounts.proofs.shelf.Shelf.campaign.Goals as goal

pub returns : goal.returns
returns c = λ T account h.
    let same = c.deref.ensures.value ∙ ap (λ (s : ShelfValue). s.campaigns) c.self.view_is in
    copied_numbered (λ (x : Campaign). x.number) c.args.self.now.campaigns c.args.number c.row_of.result h.is.campaigns
    (subst (λ (rows : List Campaign). MatchOption c.row_of.result (1 ≤ c.args.number → c.args.number ≤ length rows → ⊥)
    (λ row. (1 ≤ c.args.number) × (c.args.number ≤ length rows) × (row.now ≡ get_or rows (c.args.number - 1) row.now))) same c.row_of.ensures)
    ∙ campaign_found T account c.args.number c.args.self.now h
