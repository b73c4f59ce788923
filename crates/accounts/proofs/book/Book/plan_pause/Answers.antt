use Rattle.accounts.proofs.book.Book.plan_pause.Goals as goal

pub returns-in-OfCampaign-clause-stopped : goal.returns-in-OfCampaign-clause-stopped
returns-in-OfCampaign-clause-stopped c = λ m. rw c.in-OfCampaign.is (c.plan_campaign_pause.ensures.stopped m)

pub returns-in-OfLine-clause-stopped : goal.returns-in-OfLine-clause-stopped
returns-in-OfLine-clause-stopped c = λ m. rw c.in-OfLine.is (c.plan_line_pause.ensures.stopped m)
