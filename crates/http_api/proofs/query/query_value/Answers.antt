use Rattle.std.proofs.Common.{◌≡◌, ℕ, length, drop, sym, subst, ◌∙◌, arith}
use Rattle.std.proofs.lemmas.Iterator.Consumers.{YieldsList-from_first, YieldsList-turn, YieldsList-end}
use Rattle.std.proofs.lemmas.List.{length_push}
use Rattle.form_urlencoded.specs.Form.{raw_pairs, pair_text}
use Rattle.form_urlencoded.specs.Parse.{raw_pairs_left}
use Rattle.http_api.specs.Asked.{first_named}
use Rattle.http_api.proofs.QueryLemmas.{value_here, value_behind, no_value}
use Rattle.http_api.proofs.query.query_value.Goals as goal

pub returns-then-eq : goal.returns-then-eq
returns-then-eq c =
    let pairs = raw_pairs c.args.query.now in
    let turn = YieldsList-turn (YieldsList-from_first pair_text raw_pairs_left pairs (cc)) c.loop-named.yielded _ c.loop-named.yielded_by _ c.next.new.self (c.in-Some.named, c.in-Some.value) c.in-Some.is c.next.ensures.steps in
    value_here c.args.name.now pairs (length c.loop-named.yielded) (c.in-Some.named.now, c.in-Some.value.now) turn c.as_ref.result.now (c.as_ref.ensures.value ∙ c.in_ok-decode.ensures.value.2) c.loop-named.invariant
    _ c.if-eq.ensures c.in_ok-decode-2.ensures.value.2

pub loop-named-preserved : goal.loop-named-preserved
loop-named-preserved c =
    let pairs = raw_pairs c.args.query.now in
    let turn = YieldsList-turn (YieldsList-from_first pair_text raw_pairs_left pairs (cc)) c.loop-named.yielded _ c.loop-named.yielded_by _ c.next.new.self (c.in-Some.named, c.in-Some.value) c.in-Some.is c.next.ensures.steps in
    subst (λ (n : ℕ). first_named c.args.name.now (drop n pairs) ≡ first_named c.args.name.now pairs) (sym (length_push c.loop-named.yielded (c.in-Some.named, c.in-Some.value)))
    (value_behind c.args.name.now pairs (length c.loop-named.yielded) (c.in-Some.named.now, c.in-Some.value.now) turn c.as_ref.result.now (c.as_ref.ensures.value ∙ c.in_ok-decode.ensures.value.2) c.loop-named.invariant c.if-eq.ensures)

pub returns : goal.returns
returns c =
    let pairs = raw_pairs c.args.query.now in
    let all = YieldsList-end (YieldsList-from_first pair_text raw_pairs_left pairs (cc)) c.loop-named.yielded _ c.loop-named.yielded_by _ c.next.new.self c.in-None.is c.next.ensures.steps in
    no_value c.args.name.now pairs (length c.loop-named.yielded) (omega (arith, all.1)) c.loop-named.invariant
