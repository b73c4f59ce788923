use Rattle.std.proofs.Common.{◌≡◌, ◌+◌, List, [], ◌∷◌, ◌++◌, length, ap, subst, sym, ◌∙◌, arith, length-append}
use Rattle.desk_types.specs.declared.rows.Placement.{Placement}
use Rattle.desk_core.specs.Sums.{AreOf, both, sums_of}
use Rattle.desk_core.proofs.AddingUp.{sums_more}
use Rattle.desk_core.proofs.sums.sums_of.Goals as goal

pub loop-placement-preserved : goal.loop-placement-preserved
loop-placement-preserved c =
    let at = c.loop-placement in
    let of = c.args.of in
    let rest : List Placement = c.next.new.self in
    let step : at.placement-iterator ≡ c.in-Some.placement.now ∷ rest = c.in-Some.ensures.steps in
    let longer : length (at.yielded ++ c.in-Some.placement ∷ []) ≡ length at.yielded + 1 = length-append at.yielded (c.in-Some.placement ∷ []) in
    let fewer : length at.placement-iterator ≡ length rest + 1 = ap length step ∙ (omega arith) in (
      ap (λ s. both s (sums_of of.account of.campaign of.day c.args.moment rest)) c.counted-sums.ensures.sums
          ∙ sums_more of.account of.campaign of.day c.args.moment at.sums c.in-Some.placement.now at.placement-iterator rest step ∙ at.invariant.0,
      subst (λ n. AreOf n c.counted-sums.result) (sym longer) (c.counted-sums.ensures.one_more (length at.yielded) at.invariant.1),
      omega (arith, longer, fewer, at.invariant.2),
    )
