use Rattle.std.proofs.Common.{◌≡◌, ap, sym, refl, ◌∙◌, true, false}
use Rattle.std.specs.Option.{option_copied}
use Rattle.std.proofs.lemmas.Option.{same_Some}
use Rattle.auction_types.specs.AdValue.{with_bid}
use Rattle.auction_types.specs.Order.{wins_tie, stays_ahead}
use Rattle.gsp_price.proofs.Least.{ahead-tie_won, ahead-tie_lost}
use Rattle.gsp_price.proofs.least_score.Goals as goal

pub returns-in-Some : goal.returns-in-Some
returns-in-Some c = λ bid.
    let won : wins_tie c.args.ad.now c.in-Some.below.now ≡ true = sym c.wins_tie.ensures ∙ c.if-wins_tie.true in
    ap (λ n. stays_ahead (with_bid c.args.ad.now bid) (option_copied n)) c.in-Some.is
    ∙ ahead-tie_won c.args.ad.now c.in-Some.below.now bid won
    ∙ rw c.score.ensures.score refl

pub returns-in-Some-2 : goal.returns-in-Some-2
returns-in-Some-2 c = λ bid.
    let same = same_Some _ _ (sym c.in-Some.is ∙ c.in-Some-2.is) in
    let lost : wins_tie c.args.ad.now c.in-Some-2.below.now ≡ false = ap (λ b. wins_tie c.args.ad.now b.now) (sym same) ∙ sym c.wins_tie.ensures ∙ c.if-wins_tie.false in
    ap (λ n. stays_ahead (with_bid c.args.ad.now bid) (option_copied n)) c.in-Some-2.is
    ∙ ahead-tie_lost c.args.ad.now c.in-Some-2.below.now bid lost
    ∙ rw c.score-in-Some-2.ensures.score refl
