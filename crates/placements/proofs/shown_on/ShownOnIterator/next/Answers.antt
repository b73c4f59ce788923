use Rattle.std.proofs.Common.{rules, ◌≡◌, ◌-◌, ◌==◌, true, get_or, sym, subst, ◌∙◌}
use Rattle.desk_types.specs.declared.rows.Placement.{Placement}
use Rattle.desk_types.specs.Day.{day_of}
use Rattle.placements.specs.Linked.{is_of, is_of_day}
use Rattle.placements.proofs.Left.{and_left_of, left_more}
use Rattle.placements.proofs.shown_on.ShownOnIterator.next.Goals as goal

pub returns-clause-steps : goal.returns-clause-steps
returns-clause-steps c =
    let s = c.self.inside in
    let rows = s.placements.now.rows in
    let p = c.in_ok-row.row.now in
    let some = c.in_ok-row.ensures.0 in
    let within = c.in_ok-row.ensures.1 in
    let at = c.in_ok-row.ensures.2 in
    let there = c.self.invariant.passes some p in
    let passes = subst (λ (q : Placement). is_of_day s.account s.day q ≡ true) (sym at) there in
    let own = and_left_of (is_of s.account (get_or rows (s.number - 1) p)) (day_of (get_or rows (s.number - 1) p).shown == s.day) there in
    sym c.self.view_is
    ∙ left_more (is_of_day s.account s.day) s.number c.earlier-self-inside.result rows p some within at passes (c.earlier-self-inside.ensures s.account p own)

pub returns-clause-goes : goal.returns-clause-goes
returns-clause-goes c = let steps = returns-clause-steps c in search rules
