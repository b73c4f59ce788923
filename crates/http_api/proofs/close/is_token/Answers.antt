use Rattle.std.proofs.Common.{List, ℕ, ap, refl, ◌∙◌}
use Rattle.std.specs.Str.{str_eq_ignore_ascii_case}
use Rattle.http_api.proofs.FieldsLemmas.{same_name}
use Rattle.http_api.proofs.close.is_token.Goals as goal

pub returns : goal.returns
returns c =
    same_name c.eq_ignore_ascii_case.result c.trimmed.result.now c.args.token.now c.args.token.now c.eq_ignore_ascii_case.ensures.test refl
    ∙ ap (λ (part : List ℕ). str_eq_ignore_ascii_case part c.args.token.now) c.trimmed.ensures
