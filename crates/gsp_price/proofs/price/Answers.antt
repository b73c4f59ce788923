use Rattle.std.proofs.Common.{◌≡◌, max, arith}
use Rattle.std.specs.Int.{div_ceil}
use Rattle.std.specs.Option.{option_copied}
use Rattle.gsp_price.proofs.Least.{enough_reached, enough_least, enough_at_own_bid, stays_ahead-own, price_among}
use Rattle.gsp_price.proofs.price.Goals as goal

pub returns-clause-enough : goal.returns-clause-enough
returns-clause-enough c =
    let is : c.max-2.result ≡ max (div_ceil (max c.least_score.result c.args.floor) c.args.ad.now.quality) c.args.reserve = cc in
    enough_reached c.args.reserve c.args.floor c.least_score.result c.max-2.result c.args.ad.now (option_copied c.args.next) (omega arith) c.least_score.ensures is

pub returns-clause-least : goal.returns-clause-least
returns-clause-least c = λ bid h.
    let is : c.max-2.result ≡ max (div_ceil (max c.least_score.result c.args.floor) c.args.ad.now.quality) c.args.reserve = cc in
    enough_least c.args.reserve c.args.floor c.least_score.result c.max-2.result bid c.args.ad.now (option_copied c.args.next) (omega arith) c.least_score.ensures is h

pub returns-clause-at_most_bid : goal.returns-clause-at_most_bid
returns-clause-at_most_bid c =
    let is : c.max-2.result ≡ max (div_ceil (max c.least_score.result c.args.floor) c.args.ad.now.quality) c.args.reserve = cc in
    enough_least c.args.reserve c.args.floor c.least_score.result c.max-2.result c.args.ad.now.bid c.args.ad.now (option_copied c.args.next) (omega arith) c.least_score.ensures is
    (enough_at_own_bid c.args.reserve c.args.floor c.args.ad.now (option_copied c.args.next) c.requires.meets.0 c.requires.meets.1 (stays_ahead-own c.args.ad.now c.args.next c.requires.ahead))

pub returns-clause-among : goal.returns-clause-among
returns-clause-among c = λ entered apart ha next.
    price_among c.args.reserve c.args.floor c.max-2.result entered c.args.ad.now (option_copied c.args.next) apart ha next c.requires.meets.0 c.requires.meets.1
    (returns-clause-at_most_bid c) (returns-clause-enough c) (returns-clause-least c)
