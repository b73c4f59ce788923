use Rattle.std.proofs.Common.{◌≡◌, [], take, None}
use Rattle.desk_types.specs.Rules.{campaign_rules, first_bad}
use Rattle.desk_keeper.proofs.soundness.campaigns.first_bad_campaign.Given as goal

abbrev pub invariant-loop-i : goal.invariant-loop-i
invariant-loop-i l = first_bad 2 (campaign_rules l.tables) [] (take l.i l.rows) ≡ None
