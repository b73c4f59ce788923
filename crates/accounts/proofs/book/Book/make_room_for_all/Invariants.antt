use Rattle.accounts.proofs.Rooms.{IsMade}
use Rattle.accounts.proofs.book.Book.make_room_for_all.Given as goal

abbrev pub invariant-loop-change : goal.invariant-loop-change
invariant-loop-change l = IsMade l.initial.self l.self l.changes l.change-index
