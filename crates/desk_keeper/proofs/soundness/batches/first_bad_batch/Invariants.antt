use Rattle.std.proofs.Common.{◌≡◌, [], take, None}
use Rattle.desk_types.specs.Rules.{batch_rules, first_bad}
use Rattle.desk_keeper.proofs.soundness.batches.first_bad_batch.Given as goal

abbrev pub invariant-loop-i : goal.invariant-loop-i
invariant-loop-i l = first_bad 7 (batch_rules l.tables) [] (take l.i l.rows) ≡ None
