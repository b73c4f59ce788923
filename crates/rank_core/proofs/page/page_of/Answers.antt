use Rattle.rank_core.proofs.RankedLemmas.{ranked-each, entrants-different}
use Rattle.std.proofs.lemmas.List.Elements.{All-same}
use Rattle.rank_core.specs.Ranked.{IsRankedAmong}
use Rattle.rank_core.proofs.page.page_of.Goals as goal

pub returns-clause-each : goal.returns-clause-each
returns-clause-each c =
    All-same (IsRankedAmong c.args.ads.now) _ _ (c.page.ensures c.args.ads.now c.top_of.ensures)
    (ranked-each c.args.ads.now c.args.places c.top_of.ensures.in_range)

pub returns-clause-different_accounts : goal.returns-clause-different_accounts
returns-clause-different_accounts c = entrants-different c.args.ads.now c.top_of.ensures.in_range
