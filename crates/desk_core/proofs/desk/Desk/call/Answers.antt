use Rattle.std.proofs.Common.{Ok, Err, sym, subst}
use Rattle.desk_types.specs.declared.reply.Reply.{Reply}
use Rattle.own_rows.specs.LeftAlone.{IsAsWithoutOthers}
use Rattle.own_rows.specs.OwnReply.{IsByOwnRows}
use Rattle.desk_core.specs.DeskValue.{first_state, state}
use Rattle.desk_core.specs.Told.{replied}
use Rattle.desk_core.proofs.OwnReplies.{others_aside_of, own_rows_of}
use Rattle.desk_core.proofs.desk.Desk.call.Goals as goal

pub returns-in-Ok-clause-own_rows : goal.returns-in-Ok-clause-own_rows
returns-in-Ok-clause-own_rows g c =
    let d = c.args.self.now in
    let left = c.tell.new.self in
    subst (λ (r : Reply). IsByOwnRows (state d) c.args.moment c.args.call (Ok r)) (sym c.reply.ensures)
    (own_rows_of c.args.caller c.args.moment c.args.call d (Ok (replied (state left).tables c.in-Ok.told)) left c.in-Ok.ensures.stays c.in-Ok.ensures.answers)

pub returns-in-Ok-clause-others_aside : goal.returns-in-Ok-clause-others_aside
returns-in-Ok-clause-others_aside g c =
    let d = c.args.self.now in
    let left = c.tell.new.self in
    subst (λ (r : Reply). IsAsWithoutOthers (first_state d) d.log c.args.moment c.args.call (Ok r)) (sym c.reply.ensures)
    (others_aside_of c.args.caller c.args.moment c.args.call d (Ok (replied (state left).tables c.in-Ok.told)) left c.in-Ok.ensures.stays c.in-Ok.ensures.answers)

pub returns-in-Err-clause-own_rows : goal.returns-in-Err-clause-own_rows
returns-in-Err-clause-own_rows g c =
    own_rows_of c.args.caller c.args.moment c.args.call c.args.self.now (Err c.in-Err.fault) c.tell.new.self c.in-Err.ensures.stays c.in-Err.ensures.answers

pub returns-in-Err-clause-others_aside : goal.returns-in-Err-clause-others_aside
returns-in-Err-clause-others_aside g c =
    others_aside_of c.args.caller c.args.moment c.args.call c.args.self.now (Err c.in-Err.fault) c.tell.new.self c.in-Err.ensures.stays c.in-Err.ensures.answers
