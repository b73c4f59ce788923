use Rattle.std.proofs.Common.{ap, ◌∙◌, arith}
use Rattle.desk_types.specs.State.{State}
use Rattle.desk_core.specs.LedgerValue.{LedgerValue}
use Rattle.desk_core.specs.Sums.{sums_of}
use Rattle.desk_core.specs.contracts.ledger.Ledger.{the_view}
use Rattle.desk_core.proofs.CampaignDays.{bounds_are, day_is, sums_are}
use Rattle.desk_core.proofs.ledger.Ledger.campaign_day.Goals as goal

pub overflow_cast-spent : goal.overflow_cast-spent
overflow_cast-spent c =
    let k = c.args.campaign.now in
    let day = c.args.day in
    let R : State = (the_view c.self.inside).state in
    let S = c.args.self.now.state in
    let is = sums_are R S k.account k.number day c.sums_of-sums.result (c.sums_of-sums.ensures ∙ ap (sums_of k.account k.number day R.moment) c.shown_on.ensures.list) (ap (λ (V : LedgerValue). V.state) c.self.view_is) in
    let b = bounds_are S day k c.budget-budget.result c.sums_of-sums.result c.requires.sound c.budget-budget.ensures is in
    omega (arith, b.budget, b.used, b.credited)

pub overflow_cast-escrowed : goal.overflow_cast-escrowed
overflow_cast-escrowed c =
    let k = c.args.campaign.now in
    let day = c.args.day in
    let R : State = (the_view c.self.inside).state in
    let S = c.args.self.now.state in
    let is = sums_are R S k.account k.number day c.sums_of-sums.result (c.sums_of-sums.ensures ∙ ap (sums_of k.account k.number day R.moment) c.shown_on.ensures.list) (ap (λ (V : LedgerValue). V.state) c.self.view_is) in
    let b = bounds_are S day k c.budget-budget.result c.sums_of-sums.result c.requires.sound c.budget-budget.ensures is in
    omega (arith, b.budget, b.used, b.credited)

pub overflow_add-result : goal.overflow_add-result
overflow_add-result c =
    let k = c.args.campaign.now in
    let day = c.args.day in
    let R : State = (the_view c.self.inside).state in
    let S = c.args.self.now.state in
    let is = sums_are R S k.account k.number day c.sums_of-sums.result (c.sums_of-sums.ensures ∙ ap (sums_of k.account k.number day R.moment) c.shown_on.ensures.list) (ap (λ (V : LedgerValue). V.state) c.self.view_is) in
    let b = bounds_are S day k c.budget-budget.result c.sums_of-sums.result c.requires.sound c.budget-budget.ensures is in
    omega (arith, b.budget, b.used, b.credited)

pub overflow_sub-result : goal.overflow_sub-result
overflow_sub-result c =
    let k = c.args.campaign.now in
    let day = c.args.day in
    let R : State = (the_view c.self.inside).state in
    let S = c.args.self.now.state in
    let is = sums_are R S k.account k.number day c.sums_of-sums.result (c.sums_of-sums.ensures ∙ ap (sums_of k.account k.number day R.moment) c.shown_on.ensures.list) (ap (λ (V : LedgerValue). V.state) c.self.view_is) in
    let b = bounds_are S day k c.budget-budget.result c.sums_of-sums.result c.requires.sound c.budget-budget.ensures is in
    omega (arith, b.budget, b.used, b.credited)

pub overflow_cast-result : goal.overflow_cast-result
overflow_cast-result c =
    let k = c.args.campaign.now in
    let day = c.args.day in
    let R : State = (the_view c.self.inside).state in
    let S = c.args.self.now.state in
    let is = sums_are R S k.account k.number day c.sums_of-sums.result (c.sums_of-sums.ensures ∙ ap (sums_of k.account k.number day R.moment) c.shown_on.ensures.list) (ap (λ (V : LedgerValue). V.state) c.self.view_is) in
    let b = bounds_are S day k c.budget-budget.result c.sums_of-sums.result c.requires.sound c.budget-budget.ensures is in
    omega (arith, b.budget, b.used, b.credited)

pub returns : goal.returns
returns c =
    let k = c.args.campaign.now in
    let day = c.args.day in
    let R : State = (the_view c.self.inside).state in
    let S = c.args.self.now.state in
    let is = sums_are R S k.account k.number day c.sums_of-sums.result (c.sums_of-sums.ensures ∙ ap (sums_of k.account k.number day R.moment) c.shown_on.ensures.list) (ap (λ (V : LedgerValue). V.state) c.self.view_is) in
    day_is S day k c.budget-budget.result c.sums_of-sums.result c.budget-budget.ensures is
