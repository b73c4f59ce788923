use Rattle.std.proofs.Common.{List, get_or, subst, sym, ◌∙◌}
use Rattle.desk_types.specs.declared.rows.Fate.TheVariants.{Open}
use Rattle.desk_types.specs.declared.rows.Placement.{Placement}
use Rattle.placements.specs.PlacementsValue.{AreShownInTurn, IsNext}
use Rattle.placements.proofs.Loading.{next_at}
use Rattle.placements.proofs.placements.Placements.load.Goals as goal

pub show-requires-clause-next : goal.show-requires-clause-next
show-requires-clause-next c =
    let rows = c.as_slice-row-items.result.now in
    let none : Placement = record { number = 0; account = 0; campaign = 0; line = 0; place = 0; bid = 0; price = 0; shown = 0; deadline = 0; fate = Open } in
    let in_turn : AreShownInTurn rows = subst AreShownInTurn (sym c.as_slice-row-items.ensures) c.requires.in_turn in
    subst (λ (l : List Placement). IsNext l (get_or rows c.loop-row.row-index none)) (sym (c.in_ok-make_room.ensures.rows ∙ c.loop-row.invariant)) (next_at rows c.loop-row.row-index none in_turn c.loop-row-test.true)
