-- What a desk uses of sound rows.
use Rattle.std.proofs.Common.{◌≤◌}
use Rattle.std.specs.List.{All}
use Rattle.desk_types.specs.declared.limits.TheConstants.{MOMENT_MAX}
use Rattle.desk_types.specs.declared.rows.Placement.{Placement}
use Rattle.desk_types.specs.Sound.{IsSound, StaysWithinBudgets}
use Rattle.desk_types.specs.State.{State}
use Rattle.desk_types.proofs.Soundness.{stable}
use Rattle.desk_core.specs.Shown.{HasLine}

pub moment_of : (S : State) → IsSound S → S.moment ≤ MOMENT_MAX
moment_of S h = h.moment

pub shown_before : (S : State) → IsSound S → All (λ (p : Placement). p.shown ≤ S.moment) S.tables.placements
shown_before S h = (stable S h).past.placements

pub lines_there : (S : State) → IsSound S → All (HasLine S.tables) S.tables.placements
lines_there S h = (stable S h).named.placements

pub within_budgets : (S : State) → IsSound S → StaysWithinBudgets S
within_budgets S h = (stable S h).within_budgets
