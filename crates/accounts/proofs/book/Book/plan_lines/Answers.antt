use Rattle.accounts.proofs.book.Book.plan_lines.Goals as goal

pub returns-in-AddLine-clause-stopped : goal.returns-in-AddLine-clause-stopped
returns-in-AddLine-clause-stopped c = rw c.in-AddLine.is (c.plan_line.ensures.stopped c.args.moment)

pub returns-in-SetBid-clause-stopped : goal.returns-in-SetBid-clause-stopped
returns-in-SetBid-clause-stopped c = rw c.in-SetBid.is (c.plan_bid.ensures.stopped c.args.moment)

pub returns-in-Import-clause-stopped : goal.returns-in-Import-clause-stopped
returns-in-Import-clause-stopped c = rw c.in-Import.is (rw c.as_slice.ensures at (c.plan_import.ensures.stopped c.args.moment))
