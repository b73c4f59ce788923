use Rattle.std.proofs.Common.{◌≡◌, ℕ, ◌+◌}
use Rattle.std.specs.Prelude.{sum_by}
use Rattle.drill_calls.specs.Draws.{behind_draws}
use Rattle.drill_calls.specs.DrillCalls.{line_calls, line_draws, numbers_to}
use Rattle.drill_calls.specs.Making.{standing, AreCalled}
use Rattle.drill_calls.proofs.run.Progress.lines.Given as goal

-- the lines before are made
abbrev pub invariant-loop-before : goal.invariant-loop-before
invariant-loop-before g l = record {
  home : g.V.Service.home l.service ≡ g.V.Service.home l.initial.service;
  draws : l.self.draws ≡ behind_draws l.initial.self.draws (sum_by line_draws (numbers_to l.before));
  made : l.self.made ≡ l.initial.self.made + l.before;
  makes : (x : ℕ) → l.initial.self.draws ≡ behind_draws x 1 →
      AreCalled
      (standing (g.V.Service.service l.initial.service) l.initial.self.made l.initial.self.greatest)
      (standing (g.V.Service.service l.service) l.self.made l.self.greatest)
      (line_calls l.account l.before x);
}
