use Rattle.std.proofs.Common.{sym}
use Rattle.accounts.proofs.Asking.{active_campaign, inactive_campaign, no_campaign}
use Rattle.accounts.proofs.book.Book.is_active_campaign.Goals as goal

pub returns-in_default : goal.returns-in_default
returns-in_default c = sym (no_campaign c.args.self.now.tables c.args.account c.args.campaign c.in_default.ensures)

pub returns-in-Some-campaign : goal.returns-in-Some-campaign
returns-in-Some-campaign c =
    let T = c.args.self.now.tables in
    let h = c.in-Some.ensures in
    sym (active_campaign T c.args.account c.args.campaign c.in-Some.shelf.now _ h (sym (c.in-Some-campaign.ensures T c.args.account h)))

pub returns-in-None : goal.returns-in-None
returns-in-None c =
    let T = c.args.self.now.tables in
    let h = c.in-Some.ensures in
    sym (inactive_campaign T c.args.account c.args.campaign c.in-Some.shelf.now h (sym (c.in-None.ensures T c.args.account h)))
