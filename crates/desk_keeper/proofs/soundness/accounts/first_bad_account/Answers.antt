use Rattle.std.proofs.Common.{refl, sym, ◌∙◌}
use Rattle.desk_types.specs.Rules.{account_rules, first_bad}
use Rattle.desk_keeper.proofs.FirstBad.{bad_at, kept_more}
use Rattle.desk_keeper.proofs.soundness.accounts.first_bad_account.Goals as goal

pub loop-i-init : goal.loop-i-init
unfolding first_bad
loop-i-init c = refl

pub returns-in-Some : goal.returns-in-Some
returns-in-Some c =
    sym (bad_at 1 account_rules c.args.rows.now c.loop-i.i c.index-rows-i.result c.index-rows-i.result c.in-Some.rule c.loop-i-test.true c.index-rows-i.is c.loop-i.invariant (sym c.broken_rule.ensures ∙ c.in-Some.is))

pub loop-i-preserved : goal.loop-i-preserved
loop-i-preserved c =
    kept_more 1 account_rules c.args.rows.now c.loop-i.i c.index-rows-i.result c.index-rows-i.result c.loop-i-test.true c.index-rows-i.is c.loop-i.invariant (sym c.broken_rule.ensures ∙ c.in_default.is)
