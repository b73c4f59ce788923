use Rattle.std.proofs.Common.{◌≡◌, ◌+◌, drop}
use Rattle.desk_types.specs.declared.tables.Tables.{Tables}
use Rattle.accounts.specs.Shelved.{HasShelf}
use Rattle.accounts.proofs.Imports.{AreMade}
use Rattle.accounts.proofs.shelf.Shelf.lines_made.Given as goal

abbrev pub invariant-loop-row : goal.invariant-loop-row
invariant-loop-row l =
    (l.number ≡ l.row-index + 1)
    × ((T : Tables) → HasShelf T l.account l.self → AreMade T l.account l.self l.rows l.made.rows l.number (drop l.row-index l.rows))
