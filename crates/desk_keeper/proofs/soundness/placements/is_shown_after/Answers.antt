use Rattle.std.proofs.Common.{sym}
use Rattle.std.specs.Prelude.{nat_le}
use Rattle.desk_keeper.proofs.LastRows.{last_is}
use Rattle.desk_keeper.proofs.soundness.placements.is_shown_after.Goals as goal

pub returns-in-Some : goal.returns-in-Some
returns-in-Some c =
    sym (last_is (λ q. nat_le q.shown c.args.row.now.shown) c.args.before.now c.in-Some.field-0-1.now c.in-Some.last.now c.in-Some.ensures.cases.0)
