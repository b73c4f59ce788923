use Rattle.std.proofs.Common.{[], false, ◌==◌, ◌&&◌, get_or, refl, sym, ap, ◌∙◌}
use Rattle.std.specs.List.{list_any}
use Rattle.desk_types.specs.declared.rows.BudgetSet.{BudgetSet}
use Rattle.desk_types.specs.declared.rows.Campaign.{Campaign}
use Rattle.desk_types.specs.Rules.{campaign_rules, first_bad}
use Rattle.desk_keeper.proofs.FirstBad.{bad_at, kept_more}
use Rattle.desk_keeper.proofs.soundness.campaigns.first_bad_campaign.Goals as goal

abbrev none : Campaign
none = record { account = 0; number = 0; on = false }

pub loop-i-init : goal.loop-i-init
unfolding first_bad
loop-i-init c = refl

pub broken_rule-requires-clause-is_paid : goal.broken_rule-requires-clause-is_paid
broken_rule-requires-clause-is_paid c =
    let row = get_or c.as_slice-rows.result.now c.loop-i.i none in
    c.contains-is_paid.ensures ∙ c.in_ok-budgeted.ensures row.account row.number ∙ ap (list_any (λ (b : BudgetSet). b.account == row.account && b.campaign == row.number)) c.as_slice.ensures

pub returns-in-Some : goal.returns-in-Some
returns-in-Some c =
    let rules = campaign_rules c.args.tables.now in
    let rows = c.as_slice-rows.result.now in
    sym (ap (first_bad 2 rules []) (sym c.as_slice-rows.ensures) ∙ bad_at 2 rules rows c.loop-i.i (get_or rows c.loop-i.i none) none c.in-Some.rule c.loop-i-test.true refl c.loop-i.invariant (sym c.broken_rule.ensures ∙ c.in-Some.is))

pub loop-i-preserved : goal.loop-i-preserved
loop-i-preserved c =
    let rows = c.as_slice-rows.result.now in
    kept_more 2 (campaign_rules c.args.tables.now) rows c.loop-i.i (get_or rows c.loop-i.i none) none c.loop-i-test.true refl c.loop-i.invariant (sym c.broken_rule.ensures ∙ c.in_default.is)
