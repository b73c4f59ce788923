use Rattle.std.proofs.Common.{◌≡◌, Some, sym, ap, ◌∙◌}
use Rattle.std.specs.Option.{option_copied}
use Rattle.desk_types.specs.Changes.{credit_on}
use Rattle.desk_types.specs.Money.{is_open}
use Rattle.desk_types.specs.Tables.{placement_of}
use Rattle.desk_core.specs.LedgerValue.{LedgerValue}
use Rattle.desk_core.specs.Planned.{listed, needs_no_room}
use Rattle.desk_core.proofs.Credits.{credit_open, credit_planned, credit_unknown}
use Rattle.desk_core.proofs.ledger.Ledger.plan_credit.Goals as goal
use Rattle.desk_core.proofs.ledger.Ledger.plan_credit.Goals.{in-Settled, in-Credited}

pub returns-in_default-clause-stopped : goal.returns-in_default-clause-stopped
returns-in_default-clause-stopped c = credit_unknown c.args.self.now.state c.args.placement (sym c.placement_of.ensures ∙ ap option_copied c.in_default.is)

pub returns-in-Open-clause-stopped : goal.returns-in-Open-clause-stopped
returns-in-Open-clause-stopped c =
    let S = c.args.self.now.state in
    let p = c.in-Some.found.now in
    let found : placement_of S.tables c.args.placement ≡ Some p = sym c.placement_of.ensures ∙ ap option_copied c.in-Some.is in
    credit_open S c.args.placement p found c.in-Open.is

pub returns-clause-planned : goal.returns-clause-planned
returns-clause-planned c =
    let S = c.args.self.now.state in
    let p = c.in-Some.found.now in
    let found : placement_of S.tables c.args.placement ≡ Some p = sym c.placement_of.ensures ∙ ap option_copied c.in-Some.is in
    let now = ap (λ (L : LedgerValue). credit_on L.state.moment p.number p.fate) c.self.view_is in
    let m = c.self.inside.moment in
    elim c.match-found.branch [
      | in-Settled w ↦
          credit_planned S c.args.placement p c.match-found.changes found (ap is_open w.in-Settled.is) (ap listed w.changes-is ∙ sym (ap (credit_on m p.number) w.in-Settled.is) ∙ now) (ap needs_no_room w.changes-is)
      | in-Credited w ↦
          credit_planned S c.args.placement p c.match-found.changes found (ap is_open w.in-Credited.is) (ap listed w.changes-is ∙ sym (ap (credit_on m p.number) w.in-Credited.is) ∙ now) (ap needs_no_room w.changes-is)
    ]
