use Rattle.std.proofs.Common.{[], ◌∷◌, Some, None}
use Rattle.std.proofs.lemmas.Bool.Decides.{Decides-eqb}
use Rattle.std.proofs.lemmas.Slice.Eq.{strip_prefix_is}
use Rattle.http_api.proofs.HeadEnds.{behind-feed, behind-second, behind-none}
use Rattle.http_api.proofs.head_end.behind_blank.Goals as goal

pub returns-in-Some-clause-some : goal.returns-in-Some-clause-some
returns-in-Some-clause-some c =
    behind-feed c.args.bytes.now c.in-Some.rest.now (strip_prefix_is Decides-eqb c.args.bytes.now (10 ∷ []) (Some c.in-Some.rest) c.in-Some.ensures.cases)

pub returns-in-None-clause-some : goal.returns-in-None-clause-some
returns-in-None-clause-some c =
    behind-second c.args.bytes.now c.strip_prefix-in-None.result
    (strip_prefix_is Decides-eqb c.args.bytes.now (13 ∷ 10 ∷ []) c.strip_prefix-in-None.result c.strip_prefix-in-None.ensures.cases)

pub returns-in-None-clause-none : goal.returns-in-None-clause-none
returns-in-None-clause-none c =
    behind-none c.args.bytes.now c.strip_prefix-in-None.result
    (strip_prefix_is Decides-eqb c.args.bytes.now (10 ∷ []) None c.in-None.ensures.cases)
    (strip_prefix_is Decides-eqb c.args.bytes.now (13 ∷ 10 ∷ []) c.strip_prefix-in-None.result c.strip_prefix-in-None.ensures.cases)
