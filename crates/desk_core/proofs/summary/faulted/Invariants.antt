use Rattle.std.proofs.Common.{◌≡◌, ◌≤◌, count_by, take}
use Rattle.desk_types.specs.Summary.{is_faulted}
use Rattle.desk_core.proofs.summary.faulted.Given as goal

abbrev pub invariant-loop-entry : goal.invariant-loop-entry
invariant-loop-entry l = (l.count ≡ count_by (λ e. is_faulted e.outcome) (take l.entry-index l.log)) × (l.count ≤ l.entry-index)
