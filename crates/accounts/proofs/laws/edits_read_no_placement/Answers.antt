use Rattle.accounts.proofs.ReadingRows.{same_changes, same_refusals, same_reply}
use Rattle.accounts.proofs.laws.edits_read_no_placement.Goals as goal

pub returns-clause-refusals : goal.returns-clause-refusals
returns-clause-refusals c = same_refusals

pub returns-clause-changes : goal.returns-clause-changes
returns-clause-changes c = same_changes

pub returns-clause-reply : goal.returns-clause-reply
returns-clause-reply c = same_reply
