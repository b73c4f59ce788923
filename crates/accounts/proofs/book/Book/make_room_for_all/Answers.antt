use Rattle.std.proofs.Common.{length, sym, arith}
use Rattle.std.proofs.lemmas.List.{take_all}
use Rattle.std.proofs.lemmas.List.Elements.{All-same}
use Rattle.accounts.specs.BookValue.{HasRoomFor}
use Rattle.accounts.proofs.Rooms.{made_more}
use Rattle.accounts.proofs.book.Book.make_room_for_all.Goals as goal

pub loop-change-preserved : goal.loop-change-preserved
loop-change-preserved c =
    made_more c.args.self.now c.loop-change.self c.make_room_for.new.self c.args.changes.now c.loop-change.change-index c.change-item.result (omega arith) c.change-item.is c.loop-change.invariant
    c.make_room_for.ensures.tables c.make_room_for.ensures.kept c.in_ok-make_room_for.ensures.room

pub returns-clause-room : goal.returns-clause-room
returns-clause-room c =
    All-same (HasRoomFor c.loop-change.self.room (length c.args.changes.now)) _ _ (sym (take_all _ _ c.loop-change-test.false)) c.loop-change.invariant.room
