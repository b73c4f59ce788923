use Rattle.std.proofs.Common.{◌+◌, ◌≤◌, refl, arith, ◌∙◌}
use Rattle.std.proofs.lemmas.Result.{err_from_is_err_and}
use Rattle.drill_calls.specs.Making.{standing}
use Rattle.drill_calls.proofs.Drawing.{draws-zero}
use Rattle.drill_calls.proofs.AccountCalls.{accounts-none, account-then, account-part, account-drawn}
use Rattle.drill_calls.proofs.run.Progress.accounts.Goals as goal

pub loop-before-init : goal.loop-before-init
loop-before-init g c = record {
  home = refl;
  draws = draws-zero c.args.self.now.draws;
  made = omega (arith, c.requires.made);
  makes = accounts-none (standing (g.V.Service.service c.args.service.now) c.args.self.now.made c.args.self.now.greatest) c.args.self.now.draws c.requires.legal;
}

pub returns-in_err-account-clause-makes : goal.returns-in_err-account-clause-makes
returns-in_err-account-clause-makes g c =
    let p = err_from_is_err_and c.from_residual.result c.from_residual.ensures.1 in
    let low : c.loop-before.before + 1 ≤ c.args.size = omega arith in
    rw p.1
    (account-part
    (standing (g.V.Service.service c.args.service.now) c.args.self.now.made c.args.self.now.greatest)
    (standing (g.V.Service.service c.loop-before.service) c.loop-before.self.made c.loop-before.self.greatest)
    (standing (g.V.Service.service c.account.new.service) c.account.new.self.made c.account.new.self.greatest)
    c.args.self.now.draws c.loop-before.before c.loop-before.self.draws c.loop-before.invariant.draws c.loop-before.invariant.makes c.args.size low
    c.in_err-account.ensures.makes)

pub loop-before-preserved : goal.loop-before-preserved
loop-before-preserved g c = record {
  home = c.account.ensures.home ∙ c.loop-before.invariant.home;
  draws = account-drawn c.args.self.now.draws c.loop-before.self.draws c.account.new.self.draws c.loop-before.before c.loop-before.invariant.draws c.in_ok-account.ensures.draws;
  made = omega (arith, c.loop-before.invariant.made, c.in_ok-account.ensures.made);
  makes =
      account-then
      (standing (g.V.Service.service c.args.service.now) c.args.self.now.made c.args.self.now.greatest)
      (standing (g.V.Service.service c.loop-before.service) c.loop-before.self.made c.loop-before.self.greatest)
      (standing (g.V.Service.service c.account.new.service) c.account.new.self.made c.account.new.self.greatest)
      c.args.self.now.draws c.loop-before.before c.loop-before.self.draws c.loop-before.invariant.draws c.loop-before.invariant.makes
      c.in_ok-account.ensures.makes;
}
