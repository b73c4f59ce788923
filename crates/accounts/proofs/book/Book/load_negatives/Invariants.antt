use Rattle.std.proofs.Common.{◌≡◌, take}
use Rattle.accounts.specs.LoadedTables.{with_lines}
use Rattle.accounts.proofs.book.Book.load_negatives.Given as goal

-- the rows so far are put
abbrev pub invariant-loop-row : goal.invariant-loop-row
invariant-loop-row l = l.self.tables ≡ record (with_lines l.tables) { negatives = take l.row-index l.row-items }
