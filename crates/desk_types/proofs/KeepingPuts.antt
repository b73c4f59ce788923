-- Changes that are lawful and proper keep what is kept of the rows, the rule on budget rows aside.
use Rattle.std.proofs.Common.{List, [], ◌∷◌}
use Rattle.desk_types.specs.declared.tables.Change.{Change}
use Rattle.desk_types.specs.State.{State}
use Rattle.desk_types.specs.Tables.{put_all}
use Rattle.desk_types.proofs.KeepingFields.{apart-put, fields-put, limits-put}
use Rattle.desk_types.proofs.KeepingNames.{names-put}
use Rattle.desk_types.proofs.KeepingProper.{AreProper, IsProper}
use Rattle.desk_types.proofs.KeepingStable.{stable_of}
use Rattle.desk_types.proofs.KeepingTurns.{good_fate, paid-put, past-put, turns-put}
use Rattle.desk_types.proofs.Kept.{IsAlmostKept}
use Rattle.desk_types.proofs.Lawful.{AreLawful, IsLawful, changed}
use Rattle.desk_types.proofs.Sound.{sound_put}

pub almost_put : (S : State) (change : Change) → IsAlmostKept S → IsLawful S change → IsProper S change → IsAlmostKept (changed S change)
almost_put S change h lawful proper =
    let now = sound_put S change (stable_of S h) lawful in
    let past = past-put S change h.past lawful proper in
    record {
      moment = h.moment;
      past = past;
      in_order = now.in_order;
      numbered = now.numbered;
      fields = fields-put S change h.fields proper (good_fate S change h lawful proper);
      named = names-put S change h.named proper;
      apart = apart-put S change h.apart proper;
      limits = limits-put S change h.limits proper now.within_limits;
      in_turn = turns-put S change h lawful proper;
      paid = paid-put S change h proper past now.within_budgets;
    }

pub almost_put_all : (S : State) (changes : List Change) → IsAlmostKept S → AreLawful S changes → AreProper S changes → IsAlmostKept (record S { tables = put_all S.tables changes })
unfolding put_all
almost_put_all S [] h lawful proper = h
almost_put_all S (c ∷ cs) h lawful proper = almost_put_all (changed S c) cs (almost_put S c h lawful.0 proper.0) lawful.1 proper.1
