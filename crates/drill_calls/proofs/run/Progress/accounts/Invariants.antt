use Rattle.std.proofs.Common.{◌≡◌, ◌*◌}
use Rattle.drill_calls.specs.Draws.{behind_draws}
use Rattle.drill_calls.specs.DrillCalls.{accounts_part}
use Rattle.drill_calls.specs.Making.{standing, AreCalled}
use Rattle.drill_calls.proofs.run.Progress.accounts.Given as goal

-- the calls of the accounts before are made
abbrev pub invariant-loop-before : goal.invariant-loop-before
invariant-loop-before g l = record {
  home : g.V.Service.home l.service ≡ g.V.Service.home l.initial.service;
  draws : l.self.draws ≡ behind_draws l.initial.self.draws (31 * l.before);
  made : l.self.made ≡ 11 * l.before;
  makes :
      AreCalled
      (standing (g.V.Service.service l.initial.service) l.initial.self.made l.initial.self.greatest)
      (standing (g.V.Service.service l.service) l.self.made l.self.greatest)
      (accounts_part l.initial.self.draws l.before);
}
