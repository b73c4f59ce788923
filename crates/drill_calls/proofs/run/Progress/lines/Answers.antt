use Rattle.std.proofs.Common.{◌≡◌, ◌+◌, ◌≤◌, refl, arith, ◌∙◌}
use Rattle.std.proofs.lemmas.Result.{err_from_is_err_and}
use Rattle.drill_calls.specs.DrillCalls.{drill_line}
use Rattle.drill_calls.specs.Making.{standing}
use Rattle.drill_calls.proofs.AccountCalls.{draws-none, lines-none, line-made, line-part, line-drawn, all-lines-drawn}
use Rattle.drill_calls.proofs.run.Progress.lines.Goals as goal

pub loop-before-init : goal.loop-before-init
loop-before-init g c = record {
  home = refl;
  draws = draws-none c.args.self.now.draws;
  made = omega arith;
  makes = λ x is. lines-none (standing (g.V.Service.service c.args.service.now) c.args.self.now.made c.args.self.now.greatest) c.args.account x c.history_is_legal.ensures.legal;
}

pub returns-in_err-make-clause-makes : goal.returns-in_err-make-clause-makes
returns-in_err-make-clause-makes g c = λ x is.
    let p = err_from_is_err_and c.from_residual.result c.from_residual.ensures.1 in
    let low : c.loop-before.before + 1 ≤ 8 = omega arith in
    rw p.1
    (line-part c.args.account x c.args.self.now.draws c.loop-before.self.draws c.loop-before.before is c.loop-before.invariant.draws
    (standing (g.V.Service.service c.args.service.now) c.args.self.now.made c.args.self.now.greatest)
    (standing (g.V.Service.service c.loop-before.service) c.loop-before.self.made c.loop-before.self.greatest)
    (standing (g.V.Service.service c.make.new.service) c.make.new.self.made c.make.new.self.greatest)
    low (c.loop-before.invariant.makes x is)
    (c.in_err-make.ensures.makes (drill_line c.args.account (c.loop-before.before + 1) c.loop-before.self.draws) c.line_call-call.ensures.call))

pub loop-before-preserved : goal.loop-before-preserved
loop-before-preserved g c = record {
  home = c.make.ensures.home ∙ c.loop-before.invariant.home;
  draws = c.make.ensures.draws ∙ line-drawn c.args.self.now.draws c.loop-before.self.draws c.line_call-call.new.draws c.loop-before.before c.loop-before.invariant.draws c.line_call-call.ensures.drawn;
  made = omega (arith, c.loop-before.invariant.made, c.in_ok-make.ensures.made);
  makes = λ x is.
      line-made c.args.account x c.args.self.now.draws c.loop-before.self.draws c.loop-before.before is c.loop-before.invariant.draws
      (standing (g.V.Service.service c.args.service.now) c.args.self.now.made c.args.self.now.greatest)
      (standing (g.V.Service.service c.loop-before.service) c.loop-before.self.made c.loop-before.self.greatest)
      (standing (g.V.Service.service c.make.new.service) c.make.new.self.made c.make.new.self.greatest)
      (c.loop-before.invariant.makes x is)
      (c.in_ok-make.ensures.makes (drill_line c.args.account (c.loop-before.before + 1) c.loop-before.self.draws) c.line_call-call.ensures.call);
}

pub returns-clause-draws : goal.returns-clause-draws
returns-clause-draws g c =
    let all : c.loop-before.before ≡ 8 = omega arith in
    all-lines-drawn c.args.self.now.draws c.loop-before.self.draws c.loop-before.before all c.loop-before.invariant.draws
