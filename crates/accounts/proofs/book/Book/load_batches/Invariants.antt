use Rattle.std.proofs.Common.{◌≡◌, take}
use Rattle.accounts.specs.LoadedTables.{with_negatives}
use Rattle.accounts.proofs.book.Book.load_batches.Given as goal

-- the rows so far are put
abbrev pub invariant-loop-row : goal.invariant-loop-row
invariant-loop-row l = l.self.tables ≡ record (with_negatives l.tables) { batches = take l.row-index l.row-items }
