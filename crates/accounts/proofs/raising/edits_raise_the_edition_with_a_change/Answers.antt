use Rattle.accounts.proofs.Changing.{raised_by_change}
use Rattle.accounts.proofs.raising.edits_raise_the_edition_with_a_change.Goals as goal

pub returns : goal.returns
returns c = raised_by_change
