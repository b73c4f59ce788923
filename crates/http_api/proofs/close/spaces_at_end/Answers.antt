use Rattle.std.proofs.Common.{ℕ, not, reverse, sym, ◌∙◌, rules, tests}
use Rattle.std.proofs.lemmas.Iterator.Adapters.{YieldsList-from_rev_slice}
use Rattle.std.proofs.lemmas.Iterator.Search.{position_from_yields_List}
use Rattle.std.proofs.lemmas.List.{length-reverse}
use Rattle.httparse.specs.Grammar.{is_ows}
use Rattle.http_api.proofs.FieldsTrimmed.{place_or, back_fits}
use Rattle.http_api.proofs.close.spaces_at_end.Goals as goal

pub returns : goal.returns
returns c =
    let is =
    c.unwrap_or.ensures
    ∙ place_or (λ (byte : ℕ). not (is_ows byte)) (reverse c.args.bytes.now) c.position.result _
    (position_from_yields_List (λ (byte : ℕ). not (is_ows byte)) _ _ c.position.result c.position.ensures.ran (YieldsList-from_rev_slice c.args.bytes.now (cc)) (λ x b q k. search (rules, tests)))
    (sym (length-reverse c.args.bytes.now)) in
    record { count = is; fits = back_fits c.args.bytes.now c.unwrap_or.result is }
