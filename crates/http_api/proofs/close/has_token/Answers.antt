use Rattle.std.proofs.Common.{◌==◌, ℕ, List, rules, tests}
use Rattle.std.specs.Str.{str_eq_ignore_ascii_case}
use Rattle.std.proofs.lemmas.Iterator.Search.{any_from_yields_List}
use Rattle.std.proofs.lemmas.Iterator.Splits.{YieldsList-from_slice_split}
use Rattle.httparse.specs.Grammar.{trim_ows}
use Rattle.http_api.specs.Fields.{has_token}
use Rattle.http_api.proofs.close.has_token.Goals as goal

pub returns : goal.returns
unfolding has_token
returns c =
    any_from_yields_List (λ (part : List ℕ). str_eq_ignore_ascii_case (trim_ows part) c.args.token.now) _ _ c.any.result c.any.ensures.ran
    (YieldsList-from_slice_split _ (λ (byte : ℕ). byte == 44) c.args.value.now c.split.ensures.rest c.split.ensures.done c.split.ensures.closure (λ x r q k. search (rules, tests)))
    (λ x b q k. search (rules, tests))
