use Rattle.std.proofs.Common.{◌≡◌, ap, ◌∙◌}
use Rattle.drill_calls.specs.Draws.{behind_draws, nth_draw}
use Rattle.drill_calls.specs.DrillCalls.{drill_search as search_at}
use Rattle.drill_calls.proofs.Drawing.{behind-more, draw-later}
use Rattle.drill_calls.proofs.search.search_call.Goals as goal

pub returns-in_err-query-clause-drawn : goal.returns-in_err-query-clause-drawn
returns-in_err-query-clause-drawn c =
    c.draw-second.ensures.drawn ∙ ap (λ x. behind_draws x 1) c.draw-first.ensures.drawn ∙ behind-more c.args.draws.now 1 1

pub returns-clause-drawn : goal.returns-clause-drawn
returns-clause-drawn c =
    c.draw-second.ensures.drawn ∙ ap (λ x. behind_draws x 1) c.draw-first.ensures.drawn ∙ behind-more c.args.draws.now 1 1

pub returns-clause-call : goal.returns-clause-call
unfolding search_at
returns-clause-call c =
    let second : c.draw-second.result ≡ nth_draw c.args.draws.now 2 8 =
    c.draw-second.ensures.number ∙ ap (λ x. nth_draw x 1 8) c.draw-first.ensures.drawn ∙ draw-later c.args.draws.now 1 1 8 in
    cc (c.in_ok-query.ensures, c.draw-first.ensures.number, second)
