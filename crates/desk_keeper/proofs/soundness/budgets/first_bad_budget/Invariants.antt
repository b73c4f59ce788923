use Rattle.std.proofs.Common.{◌≡◌, [], take, None}
use Rattle.desk_types.specs.Rules.{budget_rules, first_bad}
use Rattle.desk_keeper.proofs.soundness.budgets.first_bad_budget.Given as goal

abbrev pub invariant-loop-i : goal.invariant-loop-i
invariant-loop-i l = first_bad 3 (budget_rules l.tables) [] (take l.i l.rows) ≡ None
