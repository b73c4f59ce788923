use Rattle.std.proofs.Common.{◌≡◌, take}
use Rattle.desk_types.specs.Tables.{no_rows}
use Rattle.accounts.proofs.book.Book.load_accounts.Given as goal

-- the rows so far are put
abbrev pub invariant-loop-row : goal.invariant-loop-row
invariant-loop-row l = l.self.tables ≡ record (no_rows) { accounts = take l.row-index l.row-items }
