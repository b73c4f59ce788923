use Rattle.std.proofs.Common.{ℕ, List, Bor, Option, ap, ◌∙◌, option_map}
use Rattle.std.specs.Prelude.{option_and_then}
use Rattle.serde_json.specs.Data.{Data}
use Rattle.serde_json.specs.Find.{as_str}
use Rattle.http_api.proofs.body.Body.text.Goals as goal

pub returns-in_err-member : goal.returns-in_err-member
returns-in_err-member c =
    ap (option_map (λ (text : Bor (List ℕ)). text.now)) c.from_residual.ensures
    ∙ ap (λ (found : Option Data). option_and_then as_str found) c.in_err-member.ensures

pub returns : goal.returns
returns c = c.as_str.ensures ∙ ap (λ (found : Option Data). option_and_then as_str found) c.in_ok-member.ensures
