use Rattle.std.proofs.Common.{◌∙◌, ap, take, rules}
use Rattle.rank_core.specs.Nexts.{each_with_next}
use Rattle.auction_types.specs.Page.{entrants}
use Rattle.rank_core.proofs.FirstsLemmas.{firsts}
use Rattle.rank_core.proofs.NextsLemmas.{ranked-is}
use Rattle.rank_core.proofs.Offers.{in_order_of, ranking_of, shown-ranked}
use Rattle.rank_core.proofs.top.Top.page.Goals as goal

pub returns : goal.returns
returns c offered top =
    c.with_next_below.ensures
    ∙ ap (λ ads. take c.args.places (each_with_next ads)) (
    (search rules)
    ∙ shown-ranked offered c.args.self.now c.args.places c.min-shown.result top (search rules) (search rules))
    ∙ ranked-is (entrants offered) (firsts (in_order_of offered)) c.args.places (ranking_of offered top.in_range)
