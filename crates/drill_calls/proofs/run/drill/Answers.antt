use Rattle.std.proofs.Common.{◌∙◌, ap, refl, ◌*◌}
use Rattle.std.proofs.lemmas.Result.{err_from_is_err_and}
use Rattle.drill_calls.specs.Draws.{behind_draws}
use Rattle.drill_calls.specs.Making.{Course, standing}
use Rattle.drill_calls.proofs.SearchCalls.{begun-at, unbegun-at, ends, goes-stays, in_part-stays}
use Rattle.drill_calls.proofs.run.drill.Goals as goal

pub returns-in_err-accounts-clause-service : goal.returns-in_err-accounts-clause-service
returns-in_err-accounts-clause-service g c =
    let course : Course = record { start = c.args.start; size = c.args.size; service = g.V.Service.service c.args.service.now } in
    let now = standing (g.V.Service.service c.accounts.new.service) c.accounts.new.self.made c.accounts.new.self.greatest in
    in_part-stays c.args.start c.args.size course.service now.service
    (unbegun-at course now c.new-progress.result.draws c.new-progress.result.made c.new-progress.result.greatest
    c.new-progress.ensures.draws c.new-progress.ensures.made c.new-progress.ensures.greatest c.in_err-accounts.ensures.makes)

pub returns-in_err-accounts-clause-in_part : goal.returns-in_err-accounts-clause-in_part
returns-in_err-accounts-clause-in_part g c =
    let p = err_from_is_err_and c.from_residual.result c.from_residual.ensures.1 in
    let course : Course = record { start = c.args.start; size = c.args.size; service = g.V.Service.service c.args.service.now } in
    let now = standing (g.V.Service.service c.accounts.new.service) c.accounts.new.self.made c.accounts.new.self.greatest in
    rw p.1
    (unbegun-at course now c.new-progress.result.draws c.new-progress.result.made c.new-progress.result.greatest
    c.new-progress.ensures.draws c.new-progress.ensures.made c.new-progress.ensures.greatest c.in_err-accounts.ensures.makes)

pub returns-clause-service : goal.returns-clause-service
returns-clause-service g c =
    let course : Course = record { start = c.args.start; size = c.args.size; service = g.V.Service.service c.args.service.now } in
    let now = standing (g.V.Service.service c.accounts.new.service) c.accounts.new.self.made c.accounts.new.self.greatest in
    let end = standing (g.V.Service.service c.searches.new.service) c.searches.new.self.made c.searches.new.self.greatest in
    goes-stays course (25 * c.args.size) end c.searches.result
    (c.searches.ensures.goes course refl
    (c.in_ok-accounts.ensures.draws ∙ ap (λ x. behind_draws x (31 * c.args.size)) c.new-progress.ensures.draws)
    (begun-at course now c.new-progress.result.draws c.new-progress.result.made c.new-progress.result.greatest
    c.new-progress.ensures.draws c.new-progress.ensures.made c.new-progress.ensures.greatest c.in_ok-accounts.ensures.makes))

pub returns-clause-drilled : goal.returns-clause-drilled
returns-clause-drilled g c =
    let course : Course = record { start = c.args.start; size = c.args.size; service = g.V.Service.service c.args.service.now } in
    let now = standing (g.V.Service.service c.accounts.new.service) c.accounts.new.self.made c.accounts.new.self.greatest in
    let end = standing (g.V.Service.service c.searches.new.service) c.searches.new.self.made c.searches.new.self.greatest in
    (ends course (25 * c.args.size) end c.searches.result refl
    (c.searches.ensures.goes course refl
    (c.in_ok-accounts.ensures.draws ∙ ap (λ x. behind_draws x (31 * c.args.size)) c.new-progress.ensures.draws)
    (begun-at course now c.new-progress.result.draws c.new-progress.result.made c.new-progress.result.greatest
    c.new-progress.ensures.draws c.new-progress.ensures.made c.new-progress.ensures.greatest c.in_ok-accounts.ensures.makes))).0

pub returns-clause-in_part : goal.returns-clause-in_part
returns-clause-in_part g c =
    let course : Course = record { start = c.args.start; size = c.args.size; service = g.V.Service.service c.args.service.now } in
    let now = standing (g.V.Service.service c.accounts.new.service) c.accounts.new.self.made c.accounts.new.self.greatest in
    let end = standing (g.V.Service.service c.searches.new.service) c.searches.new.self.made c.searches.new.self.greatest in
    (ends course (25 * c.args.size) end c.searches.result refl
    (c.searches.ensures.goes course refl
    (c.in_ok-accounts.ensures.draws ∙ ap (λ x. behind_draws x (31 * c.args.size)) c.new-progress.ensures.draws)
    (begun-at course now c.new-progress.result.draws c.new-progress.result.made c.new-progress.result.greatest
    c.new-progress.ensures.draws c.new-progress.ensures.made c.new-progress.ensures.greatest c.in_ok-accounts.ensures.makes))).1
