use Rattle.std.proofs.Common.{ap, ◌∙◌}
use Rattle.auction_page.specs.Reading.{SoFar}
use Rattle.auction_page.proofs.Meeting.{first-meet}
use Rattle.auction_page.proofs.reading.AuctionReading.take_heading.Goals as goal

pub invariant_of-self : goal.invariant_of-self
invariant_of-self c =
    first-meet c.self.inside.heading c.in-Some.heading c.self.inside.eligible.items
    (ap (λ (so_far : SoFar). so_far.heading) c.self.view_is ∙ c.requires) c.self.invariant
