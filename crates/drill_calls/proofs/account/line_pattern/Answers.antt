use Rattle.std.proofs.Common.{◌≡◌, ap, ◌∙◌, sym, subst, List, ℕ, IfOk}
use Rattle.drill_calls.specs.Draws.{behind_draws}
use Rattle.drill_calls.proofs.Drawing.{draws-then, draw-then, further-draws, further-pattern, no-draws}
use Rattle.drill_calls.proofs.account.line_pattern.Goals as goal

pub returns-clause-drawn : goal.returns-clause-drawn
returns-clause-drawn c =
    let x = c.args.draws.now in
    let second = draws-then x c.draw-kind.new.self c.draw-first.new.self 1 1 c.draw-kind.ensures.drawn c.draw-first.ensures.drawn in
    draws-then x c.draw-first.new.self c.draw-second.new.self 2 1 second c.draw-second.ensures.drawn
    ∙ ap (behind_draws x) (sym (further-draws c.args.line c.if-line-eq1.false))

pub returns-clause-text : goal.returns-clause-text
returns-clause-text c =
    let x = c.args.draws.now in
    let second = draws-then x c.draw-kind.new.self c.draw-first.new.self 1 1 c.draw-kind.ensures.drawn c.draw-first.ensures.drawn in
    subst (λ (p : List ℕ). IfOk c.pattern.result (λ text. text ≡ p))
    (further-pattern c.args.line x c.draw-kind.result c.draw-first.result c.draw-second.result c.if-line-eq1.false c.draw-kind.ensures.number
    (draw-then x c.draw-kind.new.self 1 8 c.draw-first.result c.draw-kind.ensures.drawn c.draw-first.ensures.number)
    (draw-then x c.draw-first.new.self 2 8 c.draw-second.result second c.draw-second.ensures.number))
    c.pattern.ensures

pub returns-then-line-eq1-clause-drawn : goal.returns-then-line-eq1-clause-drawn
returns-then-line-eq1-clause-drawn c = no-draws c.args.line c.args.draws.now c.if-line-eq1.true
