use Rattle.std.proofs.Common.{List, ℕ, Bor, ap, refl, ◌∙◌}
use Rattle.http_api.proofs.FieldsLemmas.{text_or}
use Rattle.http_api.proofs.head.text_of.Goals as goal

pub returns : goal.returns
returns c = ap (λ (text : Bor (List ℕ)). text.now) c.unwrap_or.ensures ∙ text_or c.from_utf8.result _ c.args.bytes.now _ c.from_utf8.ensures.cases refl
