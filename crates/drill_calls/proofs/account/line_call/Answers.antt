use Rattle.std.proofs.Common.{◌≡◌, subst, IfOk}
use Rattle.desk_types.specs.declared.call.Call.{Call}
use Rattle.drill_calls.proofs.Drawing.{draws-then, line-is}
use Rattle.drill_calls.specs.DrillCalls.{pattern_draws}
use Rattle.drill_calls.proofs.account.line_call.Goals as goal

pub returns-in_err-pattern-clause-drawn : goal.returns-in_err-pattern-clause-drawn
returns-in_err-pattern-clause-drawn c =
    draws-then c.args.draws.now c.draw-bid.new.self c.line_pattern.new.draws 1 (pattern_draws c.args.line) c.draw-bid.ensures.drawn c.line_pattern.ensures.drawn

pub returns-clause-drawn : goal.returns-clause-drawn
returns-clause-drawn c =
    draws-then c.args.draws.now c.draw-bid.new.self c.line_pattern.new.draws 1 (pattern_draws c.args.line) c.draw-bid.ensures.drawn c.line_pattern.ensures.drawn

pub returns-clause-call : goal.returns-clause-call
returns-clause-call c =
    subst (λ (made : Call). IfOk c.line_with.result (λ call. call ≡ made))
    (line-is c.args.account c.args.line c.args.draws.now c.draw-bid.new.self c.draw-bid.result c.in_ok-pattern.pattern
    c.draw-bid.ensures.drawn c.draw-bid.ensures.number c.in_ok-pattern.ensures.text)
    c.line_with.ensures
