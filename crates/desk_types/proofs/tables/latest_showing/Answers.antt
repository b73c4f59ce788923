use Rattle.std.proofs.Common.{arith}
use Rattle.desk_types.specs.declared.rows.Fate.TheVariants.{Open}
use Rattle.desk_types.specs.declared.rows.Placement.{Placement}
use Rattle.desk_types.specs.Opening.{placement_moment}
use Rattle.desk_types.proofs.Openings.{greatest-then}
use Rattle.desk_types.proofs.tables.latest_showing.Goals as goal

pub loop-row-preserved : goal.loop-row-preserved
loop-row-preserved c =
    let none : Placement = record { number = 0; account = 0; campaign = 0; line = 0; place = 0; bid = 0; price = 0; shown = 0; deadline = 0; fate = Open } in
    omega (arith, c.max-latest.ensures, c.max.ensures, c.fate_moment.ensures, c.loop-row.invariant, greatest-then placement_moment c.args.placements.now c.loop-row.row-index none c.loop-row-test.true)
