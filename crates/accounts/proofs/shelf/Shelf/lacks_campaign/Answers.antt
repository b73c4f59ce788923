use Rattle.std.proofs.Common.{rules, ◌≡◌, ◌-◌, ◌≤◌, length, get_or, is_none, List, MatchOption, ap, subst, ◌∙◌}
use Rattle.desk_types.specs.declared.rows.Campaign.{Campaign}
use Rattle.accounts.specs.BookValue.{ShelfValue}
use Rattle.accounts.proofs.Finds.{campaign_behind, copied_numbered, none_copied}
use Rattle.accounts.proofs.shelf.Shelf.lacks_campaign.Goals as goal

pub returns : goal.returns
returns c = λ T account made h.
    let same = c.deref.ensures.value ∙ ap (λ (s : ShelfValue). s.campaigns) c.self.view_is in
    let found = copied_numbered (λ (x : Campaign). x.number) c.args.self.now.campaigns c.args.campaign c.row_of.result h.is.campaigns
    (subst (λ (rows : List Campaign). MatchOption c.row_of.result (1 ≤ c.args.campaign → c.args.campaign ≤ length rows → ⊥)
    (λ row. (1 ≤ c.args.campaign) × (c.args.campaign ≤ length rows) × (row.now ≡ get_or rows (c.args.campaign - 1) row.now))) same c.row_of.ensures) in
    let is : c.is_none.result ≡ is_none c.row_of.result = search rules in
    is ∙ none_copied c.row_of.result ∙ ap is_none (found ∙ campaign_behind T account c.args.campaign c.args.self.now made h)
