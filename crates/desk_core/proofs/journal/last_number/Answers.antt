use Rattle.std.proofs.Common.{subst, eq-eqb}
use Rattle.desk_core.proofs.Numbers.{IsLeft, left_last}
use Rattle.desk_core.proofs.journal.last_number.Goals as goal

pub returns-then-last-caller : goal.returns-then-last-caller
returns-then-last-caller c =
    left_last c.args.caller c.args.entries.now c.in-Some.before.now c.in-Some.last.now
    (subst (IsLeft c.args.caller c.args.entries.now) c.in-Some.ensures.cases.0 c.loop-last.invariant)
    (eq-eqb c.in-Some.last.now.caller c.args.caller c.if-last-caller.true)
