use Rattle.std.proofs.Common.{◌≡◌, ◌≤◌, count_by, take}
use Rattle.desk_core.specs.Searches.{is_answered_search}
use Rattle.desk_core.proofs.summary.searches.Given as goal

abbrev pub invariant-loop-entry : goal.invariant-loop-entry
invariant-loop-entry l = (l.count ≡ count_by is_answered_search (take l.entry-index l.log)) × (l.count ≤ l.entry-index)
