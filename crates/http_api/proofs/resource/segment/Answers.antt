use Rattle.std.proofs.Common.{◌==◌, ℕ, List, Bor, refl, ap, ◌∙◌, rules, tests}
use Rattle.std.specs.List.{slice_split}
use Rattle.std.proofs.lemmas.Iterator.Consumers.{nth_from_yields_List}
use Rattle.std.proofs.lemmas.Iterator.Splits.{YieldsList-from_slice_split}
use Rattle.http_api.proofs.RoutesLemmas.{part_read}
use Rattle.http_api.proofs.resource.segment.Goals as goal

pub returns : goal.returns
returns c =
    let parts = slice_split (λ (byte : ℕ). byte == 47) c.args.path.now in
    ap (λ (part : Bor (List ℕ)). part.now) c.unwrap_or.ensures
    ∙ part_read c.nth.result _ parts c.args.place
    (nth_from_yields_List c.nth.result _ c.args.place c.nth.ensures.ran (YieldsList-from_slice_split _ _ c.args.path.now c.split.ensures.rest c.split.ensures.done c.split.ensures.closure (λ x r q k. search (rules, tests)))) refl
