use Rattle.std.proofs.Common.{◌≡◌, [], take, None}
use Rattle.desk_types.specs.Rules.{account_rules, first_bad}
use Rattle.desk_keeper.proofs.soundness.accounts.first_bad_account.Given as goal

abbrev pub invariant-loop-i : goal.invariant-loop-i
invariant-loop-i l = first_bad 1 account_rules [] (take l.i l.rows) ≡ None
