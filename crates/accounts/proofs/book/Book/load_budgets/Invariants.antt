use Rattle.std.proofs.Common.{◌≡◌, take}
use Rattle.accounts.specs.LoadedTables.{with_campaigns}
use Rattle.accounts.proofs.book.Book.load_budgets.Given as goal

-- the rows so far are put
abbrev pub invariant-loop-row : goal.invariant-loop-row
invariant-loop-row l = l.self.tables ≡ record (with_campaigns l.tables) { budgets = take l.row-index l.row-items }
