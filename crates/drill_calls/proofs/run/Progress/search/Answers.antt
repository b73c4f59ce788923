use Rattle.std.proofs.Common.{◌≢◌, ◌+◌, ◌*◌, ◌%◌, ◌≤◌, sym, subst, arith, ℕ, refl}
use Rattle.std.proofs.lemmas.Result.{err_from_is_err_and}
use Rattle.desk_types.specs.declared.call.Call.TheVariants.{Click}
use Rattle.drill_calls.specs.DrillCalls.{drill_search}
use Rattle.drill_calls.specs.Making.{standing, IsDrilledSoFar}
use Rattle.drill_calls.proofs.SearchCalls.{search-on, search-part, click-goes}
use Rattle.drill_calls.proofs.run.Progress.search.Goals as goal

pub returns-in_err-make-clause-goes : goal.returns-in_err-make-clause-goes
returns-in_err-make-clause-goes g c = λ course before is low drawn h.
    let p = err_from_is_err_and c.from_residual.result c.from_residual.ensures.1 in
    let within : before + 1 ≤ 25 * course.size = omega (arith, is, low) in
    rw p.1
    (search-part course before (standing (g.V.Service.service c.args.service.now) c.args.self.now.made c.args.self.now.greatest) h c.args.self.now.draws drawn
    (standing (g.V.Service.service c.make.new.service) c.make.new.self.made c.make.new.self.greatest)
    (c.in_err-make.ensures.makes (drill_search c.args.self.now.draws) c.search_call-call.ensures.call) within)

pub returns-then-search-ne0-clause-goes : goal.returns-then-search-ne0-clause-goes
returns-then-search-ne0-clause-goes g c = λ course before is low drawn h.
    let after = standing (g.V.Service.service c.make.new.service) c.make.new.self.made c.make.new.self.greatest in
    let other : (before + 1) % 5 ≢ 0 = subst (λ (s : ℕ). s % 5 ≢ 0) is c.if-search-ne0.true in
    subst (λ (s : ℕ). IsDrilledSoFar course s after) (sym is)
    (search-on course before (standing (g.V.Service.service c.args.service.now) c.args.self.now.made c.args.self.now.greatest) h c.args.self.now.draws drawn after
    (c.in_ok-make.ensures.makes (drill_search c.args.self.now.draws) c.search_call-call.ensures.call) other)

pub returns-clause-goes : goal.returns-clause-goes
returns-clause-goes g c = λ course before is low drawn h.
    click-goes course before (standing (g.V.Service.service c.args.service.now) c.args.self.now.made c.args.self.now.greatest) h c.args.self.now.draws drawn
    (standing (g.V.Service.service c.make.new.service) c.make.new.self.made c.make.new.self.greatest)
    (c.in_ok-make.ensures.makes (drill_search c.args.self.now.draws) c.search_call-call.ensures.call)
    c.args.search is low c.if-search-ne0.false
    (standing (g.V.Service.service c.make-2.new.service) c.make-2.new.self.made c.make-2.new.self.greatest)
    c.make-2.result
    (c.make-2.ensures.makes (Click c.make.new.self.greatest) refl)
