use Rattle.accounts.proofs.book.Book.plan.Goals as goal

pub returns-in-AddAccount-clause-stopped : goal.returns-in-AddAccount-clause-stopped
returns-in-AddAccount-clause-stopped c = rw c.in-AddAccount.is (c.plan_account.ensures.stopped c.args.moment)

pub returns-in-AddCampaign-clause-stopped : goal.returns-in-AddCampaign-clause-stopped
returns-in-AddCampaign-clause-stopped c = rw c.in-AddCampaign.is (c.plan_campaign.ensures.stopped c.args.moment)

pub returns-in-AddNegative-clause-stopped : goal.returns-in-AddNegative-clause-stopped
returns-in-AddNegative-clause-stopped c = rw c.in-AddNegative.is (c.plan_negative.ensures.stopped c.args.moment)

pub returns-in-DropNegative-clause-stopped : goal.returns-in-DropNegative-clause-stopped
returns-in-DropNegative-clause-stopped c = rw c.in-DropNegative.is (c.plan_drop.ensures.stopped c.args.moment)

pub returns-in-SetQuality-clause-stopped : goal.returns-in-SetQuality-clause-stopped
returns-in-SetQuality-clause-stopped c = rw c.in-SetQuality.is (c.plan_quality.ensures.stopped c.args.moment)

pub returns-in-Suspend-clause-stopped : goal.returns-in-Suspend-clause-stopped
returns-in-Suspend-clause-stopped c = rw c.in-Suspend.is (c.plan_suspension.ensures.stopped c.args.moment)

pub returns-in-Pause-clause-stopped : goal.returns-in-Pause-clause-stopped
returns-in-Pause-clause-stopped c = rw c.in-Pause.is (c.plan_pause.ensures.stopped c.args.moment)
