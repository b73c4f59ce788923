use Rattle.desk_types.proofs.Refusing.{refused-alone}
use Rattle.desk_types.proofs.ledger_laws.refused_call_changes_the_moment_alone.Goals as goal

pub returns : goal.returns
returns c = refused-alone
