use Rattle.std.proofs.Common.{ap, ◌∙◌, List, ℕ, ◌+◌, take}
use Rattle.std.proofs.lemmas.List.{take_rest}
use Rattle.http_api.proofs.VerdictLemmas.{split_some, split_none}
use Rattle.http_api.proofs.verdict.split_target.Goals as goal

pub returns-in-Some : goal.returns-in-Some
returns-in-Some c =
    ap (λ (rest : List ℕ). (take c.in-Some.place c.args.target.now, rest)) (take_rest c.args.target.now (c.in-Some.place + 1)) ∙ split_some 63 c.args.target.now c.in-Some.place c.in-Some.ensures

pub returns-in-None : goal.returns-in-None
returns-in-None c = split_none 63 c.args.target.now c.in-None.ensures
