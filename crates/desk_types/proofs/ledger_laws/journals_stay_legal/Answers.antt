use Rattle.desk_types.specs.declared.entry.Outcome.TheVariants.{Faulted}
use Rattle.desk_types.proofs.Legality.{legal_answer, legal_empty, legal_more}
use Rattle.desk_types.proofs.Prefixes.{legal_prefix}
use Rattle.desk_types.proofs.ledger_laws.journals_stay_legal.Goals as goal

pub returns : goal.returns
returns c = record {
  empty = legal_empty;
  prefix = legal_prefix;
  answered = legal_answer;
  faulted = λ settings seen caller moment call before after legal room rise last. legal_more settings seen caller moment call (Faulted before after) legal room rise last;
}
