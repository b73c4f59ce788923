use Rattle.std.proofs.Common.{ap, ◌∙◌}
use Rattle.auction_page.specs.Reading.{SoFar}
use Rattle.auction_page.proofs.Meeting.{more-meet}
use Rattle.auction_page.proofs.reading.AuctionReading.take_ad.Goals as goal

pub invariant_of-self-in-Some : goal.invariant_of-self-in-Some
invariant_of-self-in-Some c =
    more-meet c.self.inside.heading c.args.heading.now c.self.inside.eligible.items c.keep.new.eligible.items c.in-Some.line c.keep.result
    (ap (λ (so_far : SoFar). so_far.heading) c.self.view_is ∙ c.requires) c.self.invariant c.keep.ensures.kept c.keep.ensures.same
