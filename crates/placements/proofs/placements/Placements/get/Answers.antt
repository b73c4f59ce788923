use Rattle.std.proofs.Common.{map, subst}
use Rattle.desk_types.specs.declared.rows.Placement.{Placement}
use Rattle.desk_types.specs.Sound.{RunFromOne}
use Rattle.placements.specs.PlacementsValue.{PlacementsValue}
use Rattle.placements.proofs.Numbers.{copied}
use Rattle.placements.proofs.placements.Placements.get.Goals as goal

pub returns-clause-found : goal.returns-clause-found
returns-clause-found c =
    copied c.args.self.now.rows c.args.number c.row.result
    (subst (λ (V : PlacementsValue). RunFromOne (map (λ (p : Placement). p.number) V.rows)) c.self.view_is c.self.invariant.in_turn.numbers) c.row.ensures
