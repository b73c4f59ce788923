use Rattle.std.proofs.Common.{◌≡◌, false, ◌==◌, ◌&&◌, take}
use Rattle.std.specs.List.{list_any}
use Rattle.match_types.specs.Tests.{is_same_pattern}
use Rattle.desk_keeper.proofs.soundness.patterns.has_like.Given as goal

abbrev pub invariant-loop-i : goal.invariant-loop-i
invariant-loop-i g l =
    let group = g.R.PatternRow.group in
    let text = g.R.PatternRow.text in
    list_any (λ r. group r == group l.row && is_same_pattern (text r) (text l.row)) (take l.i l.own) ≡ false
