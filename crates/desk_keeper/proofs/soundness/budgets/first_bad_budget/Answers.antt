use Rattle.std.proofs.Common.{[], get_or, refl, sym, ap, ◌∙◌}
use Rattle.desk_types.specs.declared.rows.BudgetSet.{BudgetSet}
use Rattle.desk_types.specs.Rules.{budget_rules, first_bad}
use Rattle.desk_keeper.proofs.FirstBad.{bad_at, kept_more}
use Rattle.desk_keeper.proofs.soundness.budgets.first_bad_budget.Goals as goal

abbrev none : BudgetSet
none = record { account = 0; campaign = 0; at = 0; amount = 0 }

pub loop-i-init : goal.loop-i-init
unfolding first_bad
loop-i-init c = refl

pub returns-in-Some : goal.returns-in-Some
returns-in-Some c =
    let rules = budget_rules c.args.tables.now in
    let rows = c.as_slice-rows.result.now in
    sym (ap (first_bad 3 rules []) (sym c.as_slice-rows.ensures) ∙ bad_at 3 rules rows c.loop-i.i (get_or rows c.loop-i.i none) none c.in-Some.rule c.loop-i-test.true refl c.loop-i.invariant (sym c.broken_rule.ensures ∙ c.in-Some.is))

pub loop-i-preserved : goal.loop-i-preserved
loop-i-preserved c =
    let rows = c.as_slice-rows.result.now in
    kept_more 3 (budget_rules c.args.tables.now) rows c.loop-i.i (get_or rows c.loop-i.i none) none c.loop-i-test.true refl c.loop-i.invariant (sym c.broken_rule.ensures ∙ c.in_default.is)
