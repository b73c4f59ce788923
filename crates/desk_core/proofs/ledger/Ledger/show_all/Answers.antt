use Rattle.desk_core.proofs.Placements.{next_of, put_more, put_none}
use Rattle.desk_core.proofs.ledger.Ledger.show_all.Goals as goal

pub loop-placement-init : goal.loop-placement-init
loop-placement-init c = put_none c.args.self.now c.args.list.now c.requires.next c.requires.room

pub show-requires-clause-next : goal.show-requires-clause-next
show-requires-clause-next c =
    let at = c.loop-placement in
    (next_of at.self c.args.list.now at.placement-index _ c.loop-placement-test.true at.invariant.next).0

pub loop-placement-preserved : goal.loop-placement-preserved
loop-placement-preserved c =
    let at = c.loop-placement in
    put_more c.args.self.now at.self c.show.new.self c.args.list.now at.placement-index _ c.loop-placement-test.true at.invariant c.show.ensures.state c.show.ensures.rows c.show.ensures.left
