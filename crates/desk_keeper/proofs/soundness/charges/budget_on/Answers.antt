use Rattle.std.proofs.Common.{rules, ◌≡◌, ◌==◌, ◌&&◌, ◌+◌, ◌∷◌, [], false, take}
use Rattle.std.proofs.lemmas.List.{nil_from_length}
use Rattle.std.proofs.lemmas.List.Sorted.{IsPartitionPoint-from_clause}
use Rattle.desk_types.specs.Keys.{budget_key, is_less_key}
use Rattle.desk_types.proofs.Places.{parted, place_from}
use Rattle.desk_keeper.proofs.LatestBudget.{budget_there, budget_other, budget_nowhere}
use Rattle.desk_keeper.proofs.OwnRows.{other_account, other_number}
use Rattle.desk_keeper.proofs.soundness.charges.budget_on.Goals as goal
use Rattle.desk_keeper.proofs.soundness.charges.budget_on.Goals.{else-setting-account-via-then-setting-account+else-setting-campaign, else-setting-account-via-else-setting-account}

pub returns-in_default : goal.returns-in_default
returns-in_default c =
    let rows = c.args.budgets.now in
    let end = c.partition_point-end.result in
    let wanted = c.args.account ∷ c.args.campaign ∷ (c.args.day + 1) ∷ [] in
    let at = place_from budget_key wanted rows end (IsPartitionPoint-from_clause (λ r. is_less_key (budget_key r) wanted) _ _ c.partition_point-end.ensures.partitioned (parted budget_key wanted rows c.requires.in_order) (λ a r q k. search rules)) in
    budget_nowhere c.args.account c.args.campaign c.args.day rows end at (nil_from_length (take end rows) c.in_default.ensures.cases)

pub returns-then-setting-campaign : goal.returns-then-setting-campaign
returns-then-setting-campaign c =
    let rows = c.args.budgets.now in
    let end = c.partition_point-end.result in
    let wanted = c.args.account ∷ c.args.campaign ∷ (c.args.day + 1) ∷ [] in
    let at = place_from budget_key wanted rows end (IsPartitionPoint-from_clause (λ r. is_less_key (budget_key r) wanted) _ _ c.partition_point-end.ensures.partitioned (parted budget_key wanted rows c.requires.in_order) (λ a r q k. search rules)) in
    budget_there c.args.account c.args.campaign c.args.day rows c.in-Some.field-0-1.now c.in-Some.setting.now end c.requires.in_order at c.in-Some.ensures.cases.0 c.if-setting-account.true c.if-setting-campaign.true

pub returns-else-setting-account : goal.returns-else-setting-account
returns-else-setting-account c =
    let rows = c.args.budgets.now in
    let end = c.partition_point-end.result in
    let setting = c.in-Some.setting.now in
    let wanted = c.args.account ∷ c.args.campaign ∷ (c.args.day + 1) ∷ [] in
    let at = place_from budget_key wanted rows end (IsPartitionPoint-from_clause (λ r. is_less_key (budget_key r) wanted) _ _ c.partition_point-end.ensures.partitioned (parted budget_key wanted rows c.requires.in_order) (λ a r q k. search rules)) in
    let other : (setting.account == c.args.account && setting.campaign == c.args.campaign) ≡ false =
    elim c.else-setting-account.branch [
      | else-setting-account-via-then-setting-account+else-setting-campaign w ↦ other_number setting.account setting.campaign c.args.account c.args.campaign w.if-setting-campaign.false
      | else-setting-account-via-else-setting-account w ↦ other_account setting.account setting.campaign c.args.account c.args.campaign w.if-setting-account.false
    ] in
    budget_other c.args.account c.args.campaign c.args.day rows c.in-Some.field-0-1.now setting end c.requires.in_order at c.in-Some.ensures.cases.0 other
