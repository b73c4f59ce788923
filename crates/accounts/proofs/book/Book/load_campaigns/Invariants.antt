use Rattle.std.proofs.Common.{◌≡◌, take}
use Rattle.accounts.specs.LoadedTables.{with_accounts}
use Rattle.accounts.proofs.book.Book.load_campaigns.Given as goal

-- the rows so far are put
abbrev pub invariant-loop-row : goal.invariant-loop-row
invariant-loop-row l = l.self.tables ≡ record (with_accounts l.tables) { campaigns = take l.row-index l.row-items }
