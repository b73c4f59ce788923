use Rattle.std.proofs.Common.{◌≡◌, ◌-◌, ◌++◌, take, length}
use Rattle.rank_core.specs.Nexts.{each_with_next}
use Rattle.rank_core.proofs.page.with_next_below.Given as goal

abbrev pub invariant-loop : goal.invariant-loop
invariant-loop l =
    (length l.page.items ≡ l.counter) × (l.page.items ++ take (l.places - l.counter) (each_with_next l.rest) ≡ take l.places (each_with_next l.leading))
