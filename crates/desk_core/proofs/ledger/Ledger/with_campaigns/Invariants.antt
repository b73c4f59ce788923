use Rattle.std.proofs.Common.{◌≡◌, map, take}
use Rattle.desk_types.specs.Reports.{campaign_day}
use Rattle.desk_core.specs.Sums.{with_rows}
use Rattle.desk_core.proofs.ledger.Ledger.with_campaigns.Given as goal

abbrev pub invariant-loop-campaign : goal.invariant-loop-campaign
invariant-loop-campaign l = l.all ≡ with_rows l.sums (map (campaign_day l.self.state l.sums.day) (take l.campaign-index l.campaigns))
