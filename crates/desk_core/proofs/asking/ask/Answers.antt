use Rattle.std.proofs.Common.{[], Ok, ap, sym}
use Rattle.desk_core.specs.Planned.{listed}
use Rattle.desk_core.proofs.Asked.{asked_nothing, asked_same}
use Rattle.desk_core.proofs.asking.ask.Goals as goal

pub returns-in-Nothing-clause-asked : goal.returns-in-Nothing-clause-asked
returns-in-Nothing-clause-asked g c =
    let k = g.K.Keeper.keeper c.args.keeper.now in
    asked_same k k [] (listed c.args.changes.now) (Ok tt) (ap listed (sym c.in-Nothing.is)) (asked_nothing k tt)
