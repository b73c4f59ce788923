use Rattle.std.proofs.Common.{rules, ◌≡◌, Some, [], Ok}
use Rattle.desk_types.specs.Judged.{judged}
use Rattle.desk_core.specs.declared.told.Told.TheVariants.{Refused}
use Rattle.desk_core.specs.Asking.{changes_of}
use Rattle.desk_core.specs.Planned.{listed}
use Rattle.desk_core.proofs.Asked.{asked_nothing, asked_same}
use Rattle.desk_core.proofs.Reached.{answered_is, changes_planned, changes_refused, there_of, told_of}
use Rattle.desk_core.proofs.desk.answer.Goals as goal

pub returns-in-Ok-planned-clause-state : goal.returns-in-Ok-planned-clause-state
returns-in-Ok-planned-clause-state g c =
    answered_is c.args.ledger.now.state c.carry_out.new.ledger.state c.args.call.now c.in-Ok-planned.plan c.carry_out.result c.in-Ok-planned.ensures.planned c.carry_out.ensures.state

pub returns-in-Ok-planned-clause-reply : goal.returns-in-Ok-planned-clause-reply
returns-in-Ok-planned-clause-reply g c =
    told_of c.args.ledger.now.state c.carry_out.new.ledger.state c.args.call.now c.in-Ok-planned.plan c.carry_out.result c.in-Ok-planned.ensures.planned c.carry_out.ensures.state c.carry_out.ensures.told

pub returns-in-Ok-planned-clause-there : goal.returns-in-Ok-planned-clause-there
returns-in-Ok-planned-clause-there g c =
    there_of c.args.ledger.now.state c.carry_out.new.ledger.state c.args.call.now c.in-Ok-planned.plan c.carry_out.result c.in-Ok-planned.ensures.planned c.carry_out.ensures.state c.carry_out.ensures.told

pub returns-in-Ok-planned-clause-asked : goal.returns-in-Ok-planned-clause-asked
returns-in-Ok-planned-clause-asked g c =
    let S = c.args.ledger.now.state in
    let plan = c.in-Ok-planned.plan in
    asked_same (g.K.Keeper.keeper c.args.keeper.now) (g.K.Keeper.keeper c.carry_out.new.keeper) (listed plan.changes) (changes_of S c.args.call.now) c.carry_out.result
    (changes_planned S c.args.call.now plan c.in-Ok-planned.ensures.planned) c.carry_out.ensures.asked

pub returns-in-Err-Refused-clause-asked : goal.returns-in-Err-Refused-clause-asked
returns-in-Err-Refused-clause-asked g c =
    let S = c.args.ledger.now.state in
    let k = g.K.Keeper.keeper c.args.keeper.now in
    let refusal = c.in-Err-Refused.refusal in
    let refused : judged S c.args.call.now ≡ Some refusal = search rules in
    asked_same k k [] (changes_of S c.args.call.now) (Ok (Refused refusal)) (changes_refused S c.args.call.now refusal refused) (asked_nothing k (Refused refusal))
