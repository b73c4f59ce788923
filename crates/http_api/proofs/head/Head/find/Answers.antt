use Rattle.std.proofs.Common.{ℕ, List, ap, subst, sym, ◌∙◌, take_all, arith}
use Rattle.http_api.specs.HeadFound.{IsFound}
use Rattle.http_api.proofs.FieldsLemmas.{values_among, values_are, values_more}
use Rattle.http_api.proofs.head.Head.find.Goals as goal

pub loop-place-preserved : goal.loop-place-preserved
loop-place-preserved c =
    subst (λ (values : List (List ℕ)). IsFound values c.with_field-found.result)
    (sym (values_more c.args.name.now c.args.self.now.fields c.loop-place.place (c.field.result.0.now, c.field.result.1.now) c.field.ensures))
    (c.with_field-found.ensures _ c.loop-place.invariant)

pub returns : goal.returns
returns c =
    subst (λ (values : List (List ℕ)). IsFound values c.loop-place.found)
    (ap (values_among c.args.name.now) (take_all c.loop-place.place c.args.self.now.fields (omega (arith, c.field_count-place-end.ensures))) ∙ values_are c.args.name.now c.args.self.now)
    c.loop-place.invariant
