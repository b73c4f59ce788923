use Rattle.std.proofs.Common.{◌-◌, drop, filter, reverse, refl, ap, ◌∙◌}
use Rattle.std.specs.Prelude.{nat_le}
use Rattle.desk_types.specs.declared.limits.TheConstants.{STATEMENT_MAX}
use Rattle.desk_types.specs.declared.rows.Placement.{Placement}
use Rattle.placements.specs.Linked.{is_of_day}
use Rattle.placements.proofs.Left.{stated_first}
use Rattle.placements.proofs.placements.Placements.of_account.Goals as goal

pub returns : goal.returns
returns c =
    let a = c.args in
    let latest = filter (λ (p : Placement). nat_le a.from p.number) (reverse (filter (is_of_day a.account a.day) a.self.now.rows)) in
    c.from_vec.ensures
    ∙ c.reverse.ensures.items
    ∙ ap reverse c.in_ok-rows.ensures
    ∙ ap (λ n. reverse (drop n latest)) (c.saturating_sub-later.ensures ∙ ap (λ n. n - STATEMENT_MAX) c.count_from.ensures)
    ∙ stated_first a.account a.day a.from STATEMENT_MAX a.self.now.rows latest refl
