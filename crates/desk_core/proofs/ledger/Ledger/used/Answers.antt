use Rattle.std.proofs.Common.{◌∙◌, ap, filter, sum_by}
use Rattle.desk_types.specs.Money.{used}
use Rattle.desk_types.specs.Rules.{is_charged}
use Rattle.desk_core.specs.contracts.ledger.Ledger.{the_view}
use Rattle.desk_core.proofs.Charges.{used-own}
use Rattle.desk_core.proofs.ledger.Ledger.used.Goals as goal

pub returns-clause-sum : goal.returns-clause-sum
returns-clause-sum c =
    let of = c.args.of in
    let ledger = c.self.inside in
    c.charged.ensures.sum
    ∙ ap (λ placements. sum_by (λ p. p.price) (filter (is_charged of.account of.campaign of.day ledger.moment) placements)) c.shown_on.ensures.list
    ∙ used-own (the_view ledger).state of.account of.campaign of.day
    ∙ ap (λ V. used V.state of.account of.campaign of.day) c.self.view_is
