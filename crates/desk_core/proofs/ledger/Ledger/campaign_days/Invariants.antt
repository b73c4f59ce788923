use Rattle.std.proofs.Common.{◌≡◌, map, take}
use Rattle.desk_types.specs.Reports.{campaign_day}
use Rattle.desk_core.proofs.ledger.Ledger.campaign_days.Given as goal

abbrev pub invariant-loop-campaign : goal.invariant-loop-campaign
invariant-loop-campaign l = l.rows.items ≡ map (campaign_day l.self.state l.day) (take l.campaign-index l.campaigns)
