use Rattle.std.proofs.Common.{ℕ, ◌-◌, ◌<◌, eqb, get_or, unwrap_or, sym, ap, subst, ◌∙◌, arith}
use Rattle.std.specs.HashMap.{get}
use Rattle.placements.specs.Linked.{AreKept}
use Rattle.placements.specs.PlacementsValue.{PlacementsValue}
use Rattle.placements.proofs.Walking.{link_of, link_within, so_far_end, so_far_here, so_far_more, so_far_past}
use Rattle.placements.proofs.placements.Placements.on_day.Goals as goal

pub returns-then-shown-day : goal.returns-then-shown-day
returns-then-shown-day c = λ account bound within h.
    let number = c.loop-number.number in
    let p = c.index.result.now in
    let at = c.index.ensures ∙ ap (λ (V : PlacementsValue). get_or V.rows (number - 1) p) c.self.view_is in
    so_far_here account c.args.day number bound c.args.self.now.rows p (c.loop-number.invariant.1 account bound within h) c.loop-number-test.true at c.loop-number.invariant.0
    (sym c.day_of-shown.ensures ∙ c.if-shown-day.true)

pub returns-then-shown-day-2 : goal.returns-then-shown-day-2
returns-then-shown-day-2 c = λ account bound within h.
    let number = c.loop-number.number in
    let p = c.index.result.now in
    let at = c.index.ensures ∙ ap (λ (V : PlacementsValue). get_or V.rows (number - 1) p) c.self.view_is in
    let last = λ (account : ℕ). unwrap_or (get eqb c.self.inside.last account) 0 in
    let kept = subst (λ (V : PlacementsValue). AreKept V.rows c.self.inside.before.items last) c.self.view_is c.self.invariant in
    so_far_past account c.args.day number bound c.args.self.now.rows p (c.loop-number.invariant.1 account bound within h) c.loop-number-test.true at c.loop-number.invariant.0 kept.in_turn.moments
    (subst (λ day. day < c.args.day) c.day_of-shown.ensures c.if-shown-day-2.true)

pub loop-number-smaller : goal.loop-number-smaller
loop-number-smaller c =
    let last = λ (account : ℕ). unwrap_or (get eqb c.self.inside.last account) 0 in
    let kept = subst (λ (V : PlacementsValue). AreKept V.rows c.self.inside.before.items last) c.self.view_is c.self.invariant in
    let low = link_within c.args.self.now.rows c.self.inside.before.items last c.loop-number.number c.index-number.result.now kept c.loop-number-test.true c.loop-number.invariant.0 c.index-number.ensures in
    omega (arith, low, c.loop-number-test.true)

pub loop-number-preserved : goal.loop-number-preserved
loop-number-preserved c =
    let number = c.loop-number.number in
    let earlier = c.index-number.result.now in
    let rows = c.args.self.now.rows in
    let p = c.index.result.now in
    let at = c.index.ensures ∙ ap (λ (V : PlacementsValue). get_or V.rows (number - 1) p) c.self.view_is in
    let last = λ (account : ℕ). unwrap_or (get eqb c.self.inside.last account) 0 in
    let kept = subst (λ (V : PlacementsValue). AreKept V.rows c.self.inside.before.items last) c.self.view_is c.self.invariant in
    let low = link_within rows c.self.inside.before.items last number earlier kept c.loop-number-test.true c.loop-number.invariant.0 c.index-number.ensures in
    let link = link_of rows c.self.inside.before.items last number earlier p kept c.loop-number-test.true c.loop-number.invariant.0 at c.index-number.ensures in (
      omega (arith, low, c.loop-number.invariant.0),
      λ account bound within h.
          so_far_more account c.args.day number earlier bound rows p (c.loop-number.invariant.1 account bound within h) c.loop-number-test.true at c.loop-number.invariant.0
          (λ is. c.if-shown-day.false (c.day_of-shown.ensures ∙ is)) link,
    )

pub returns : goal.returns
returns c = λ account bound within h.
    so_far_end account c.args.day c.loop-number.number bound c.args.self.now.rows (c.loop-number.invariant.1 account bound within h) c.loop-number-test.false
