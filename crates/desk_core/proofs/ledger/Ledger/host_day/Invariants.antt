use Rattle.std.proofs.Common.{◌≡◌}
use Rattle.desk_core.proofs.HostDays.{sums_up_to}
use Rattle.desk_core.proofs.ledger.Ledger.host_day.Given as goal

abbrev pub invariant-loop-before : goal.invariant-loop-before
invariant-loop-before l = l.sums ≡ sums_up_to l.self.state l.day l.accounts l.before
