use Rattle.desk_types.proofs.MoneyMoves.{expired}
use Rattle.desk_types.proofs.MoneySteps.{affordable_law, made_law, other_law, refused_law, set_law, settled_law, shown_law}
use Rattle.desk_types.proofs.Soundness.{stable}
use Rattle.desk_types.proofs.ledger_laws.money_moves_as_recorded.Goals as goal

pub returns : goal.returns
returns c = record {
  expired = expired;
  shown = λ S moment text places spots on h. shown_law S moment text places spots on (stable S h);
  affordable = λ S moment text places h. affordable_law S moment text places (stable S h);
  settled = λ S moment placement on h. settled_law S moment placement on (stable S h);
  set = λ S moment account key campaign amount on h. set_law S moment account key campaign amount on (stable S h);
  made = λ S moment account key campaign amount on h. made_law S moment account key campaign amount on (stable S h);
  no_other = other_law;
  refused = refused_law;
}
