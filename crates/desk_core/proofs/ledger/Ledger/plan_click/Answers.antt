use Rattle.std.proofs.Common.{◌≡◌, ◌==◌, Some, sym, ap, subst, ◌∙◌}
use Rattle.std.specs.Option.{option_copied}
use Rattle.desk_types.specs.declared.rows.Placement.{Placement}
use Rattle.desk_types.specs.Changes.{settlement}
use Rattle.desk_types.specs.Tables.{placement_of}
use Rattle.desk_core.specs.LedgerValue.{LedgerValue}
use Rattle.desk_core.specs.Planned.{listed}
use Rattle.desk_core.specs.Shown.{HasLine}
use Rattle.desk_core.proofs.FindLemmas.{All-found}
use Rattle.desk_core.proofs.Settled.{planned_click}
use Rattle.desk_core.proofs.Sounds.{lines_there}
use Rattle.desk_core.proofs.ledger.Ledger.plan_click.Goals as goal

pub returns-clause-planned : goal.returns-clause-planned
returns-clause-planned c =
    let S = c.args.self.now.state in
    let p = c.in-Some.found.now in
    let found : placement_of S.tables c.args.placement ≡ Some p = sym c.placement_of.ensures ∙ ap option_copied c.in-Some.is in
    let line = All-found (HasLine S.tables) (λ (q : Placement). q.number == c.args.placement) S.tables.placements p (lines_there S c.requires.sound) found in
    let now = ap (λ (L : LedgerValue). L.state.moment) c.self.view_is in
    planned_click S c.args.placement p c.settlement.result found line (subst (λ m. listed c.settlement.result ≡ settlement m (Some p)) now c.settlement.ensures.settles) c.settlement.ensures.no_room
