use Rattle.std.proofs.Common.{sym, subst, ◌∙◌}
use Rattle.auction_types.specs.AdValue.{IsBid, IsInRange, IsQuality}
use Rattle.rank_core.proofs.Offers.{IsTopOf-closed_to, more-in_range}
use Rattle.rank_core.proofs.top.Top.offer.Goals as goal

pub returns-else-not-is_closed_to : goal.returns-else-not-is_closed_to
returns-else-not-is_closed_to c offered top =
    let in_range : IsInRange c.args.ad = (subst IsBid c.bid.ensures.bid c.bid.ensures.in_range, subst IsQuality c.quality.ensures.quality c.quality.ensures.in_range) in
    IsTopOf-closed_to offered c.args.ad c.args.self.now (more-in_range offered c.args.ad top.in_range in_range) top (sym c.is_closed_to.ensures ∙ c.if-not-is_closed_to.false)
