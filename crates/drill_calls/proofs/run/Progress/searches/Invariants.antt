use Rattle.std.proofs.Common.{◌≡◌, ◌≤◌, ◌+◌, ◌*◌}
use Rattle.drill_calls.specs.Draws.{behind_draws}
use Rattle.drill_calls.specs.Making.{standing, Course, IsDrilledSoFar}
use Rattle.drill_calls.proofs.run.Progress.searches.Given as goal

-- the searches before are made
abbrev pub invariant-loop-before : goal.invariant-loop-before
invariant-loop-before g l = record {
  home : g.V.Service.home l.service ≡ g.V.Service.home l.initial.service;
  draws : l.self.draws ≡ behind_draws l.initial.self.draws (2 * l.before);
  made : l.self.made ≤ 11 * l.size + 2 * l.before;
  goes : (course : Course) → l.size ≡ course.size →
      l.initial.self.draws ≡ behind_draws course.start (31 * course.size) →
      IsDrilledSoFar course 0 (standing (g.V.Service.service l.initial.service) l.initial.self.made l.initial.self.greatest) →
      IsDrilledSoFar course l.before (standing (g.V.Service.service l.service) l.self.made l.self.greatest);
}
