use Rattle.std.proofs.Common.{sym, ◌∙◌}
use Rattle.http_api.proofs.FieldsLemmas.{found_with, found_without, same_name}
use Rattle.http_api.proofs.head.with_field.Goals as goal

pub returns-then-eq_ignore_ascii_case : goal.returns-then-eq_ignore_ascii_case
returns-then-eq_ignore_ascii_case c =
    λ values given. found_with _ values c.args.field.1.now c.with_value.result
    (sym c.if-eq_ignore_ascii_case.true ∙ same_name c.eq_ignore_ascii_case.result c.args.field.0.now c.as_bytes.result.now c.args.name.now c.eq_ignore_ascii_case.ensures.test c.as_bytes.ensures.value)
    (c.with_value.ensures values given)

pub returns-else-eq_ignore_ascii_case : goal.returns-else-eq_ignore_ascii_case
returns-else-eq_ignore_ascii_case c =
    λ values given. found_without _ values c.args.field.1.now c.args.found
    (sym c.if-eq_ignore_ascii_case.false ∙ same_name c.eq_ignore_ascii_case.result c.args.field.0.now c.as_bytes.result.now c.args.name.now c.eq_ignore_ascii_case.ensures.test c.as_bytes.ensures.value)
    given
