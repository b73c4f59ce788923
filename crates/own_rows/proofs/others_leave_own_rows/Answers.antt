use Rattle.desk_types.proofs.Soundness.{stable}
use Rattle.own_rows.proofs.Others.{call_left, entries_left}
use Rattle.own_rows.proofs.others_leave_own_rows.Goals as goal

pub returns-clause-call : goal.returns-clause-call
returns-clause-call c = λ S account moment call sound alone. call_left S account moment call (stable S sound) alone

pub returns-clause-entries : goal.returns-clause-entries
returns-clause-entries c = λ S account entries sound alone. entries_left S account entries (stable S sound) alone
