use Rattle.std.proofs.Common.{◌≡◌, ◌+◌, ◌-◌, ◌++◌, ◌∙◌, [], ◌∷◌, ap, sym, take, arith}
use Rattle.std.specs.List.{slice_get}
use Rattle.rank_core.specs.Nexts.{each_with_next}
use Rattle.rank_core.proofs.NextsLemmas.{with_next, each_with_next_more}
use Rattle.rank_core.proofs.page.with_next_below.Goals as goal

pub loop-preserved : goal.loop-preserved
loop-preserved c =
    let done = c.loop.page.items in
    let below = c.in-Some.below.now in
    let pushed : c.push.new.self.items ≡ done ++ (with_next c.in-Some.ad.now (slice_get below 0) ∷ [])
    = c.push.ensures.items ∙ ap (λ next. done ++ (with_next c.in-Some.ad.now next ∷ [])) (c.copied.ensures ∙ c.first.ensures.value) in (
      omega (arith, c.push.ensures.len),
      ap (λ ranked. ranked ++ take (c.args.places - (c.loop.counter + 1)) (each_with_next below)) pushed
          ∙ sym (each_with_next_more done c.in-Some.ad.now below (c.args.places - c.loop.counter) (c.args.places - (c.loop.counter + 1)) (omega arith))
          ∙ ap (λ rest. done ++ take (c.args.places - c.loop.counter) (each_with_next rest)) (sym c.in-Some.ensures.cases.0)
          ∙ c.loop.invariant.1,
    )
