use Rattle.std.proofs.Common.{◌≤◌, arith}
use Rattle.desk_core.proofs.Desks.{held_opened, reached_first}
use Rattle.desk_core.proofs.desk.Desk.open.Goals as goal

pub invariant_of-result : goal.invariant_of-result
invariant_of-result g c =
    let before = g.K.Keeper.keeper c.args.keeper in
    let after = g.K.Keeper.keeper c.load.new.self in
    let loads = c.in-Ok.ensures.loads in
    let base : c.faults-base.result ≤ after.faults = omega (arith, c.faults-base.ensures, loads.same.faults) in
    reached_first c.in-Ok-load.ledger.state c.new.result c.in-Ok.tables c.faults-base.result after c.args.settings c.in-Ok-load.ensures c.new.ensures.settings c.new.ensures.entries
    c.new.ensures.in_range c.in-Ok-check.ensures.sound base (held_opened after.held before.held c.in-Ok.tables loads.held loads.loaded)
