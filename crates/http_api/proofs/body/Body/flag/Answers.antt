use Rattle.std.proofs.Common.{Option, ap, ◌∙◌}
use Rattle.std.specs.Prelude.{option_and_then}
use Rattle.serde_json.specs.Data.{Data}
use Rattle.serde_json.specs.Find.{as_bool}
use Rattle.http_api.proofs.body.Body.flag.Goals as goal

pub returns-in_err-member : goal.returns-in_err-member
returns-in_err-member c = c.from_residual.ensures ∙ ap (λ (found : Option Data). option_and_then as_bool found) c.in_err-member.ensures

pub returns : goal.returns
returns c = c.as_bool.ensures ∙ ap (λ (found : Option Data). option_and_then as_bool found) c.in_ok-member.ensures
