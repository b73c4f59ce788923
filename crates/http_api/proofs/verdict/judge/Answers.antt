use Rattle.std.proofs.Common.{ap, ◌∙◌}
use Rattle.http_api.specs.Resources.{resource_of}
use Rattle.http_api.proofs.VerdictLemmas.{by_claim, by_head, no_route, parts_of, verdict_asked}
use Rattle.http_api.proofs.verdict.judge.Goals as goal

pub returns-in-Some : goal.returns-in-Some
returns-in-Some c = by_head c.args.host_key.now c.args.head.now c.args.body.now c.in-Some.judgement c.in-Some.ensures

pub returns-in_default-resource_of : goal.returns-in_default-resource_of
returns-in_default-resource_of c =
    let parts = parts_of c.args.head.now c.split_target.result.0.now c.split_target.result.1.now c.target.result.now c.split_target.ensures c.target.ensures in
    no_route c.args.host_key.now c.args.head.now c.args.body.now c.in_default.ensures (c.in_default-resource_of.ensures ∙ ap resource_of parts.0)

pub returns-in-Some-judge_claim : goal.returns-in-Some-judge_claim
returns-in-Some-judge_claim c =
    let parts = parts_of c.args.head.now c.split_target.result.0.now c.split_target.result.1.now c.target.result.now c.split_target.ensures c.target.ensures in
    by_claim c.args.host_key.now c.args.head.now c.args.body.now c.in_default.ensures c.in-Some-resource_of.resource (c.in-Some-resource_of.ensures ∙ ap resource_of parts.0) c.in-Some-judge_claim.judgement c.in-Some-judge_claim.ensures

pub returns : goal.returns
returns c =
    let parts = parts_of c.args.head.now c.split_target.result.0.now c.split_target.result.1.now c.target.result.now c.split_target.ensures c.target.ensures in
    verdict_asked c.args.host_key.now c.args.head.now c.args.body.now c.in_default.ensures c.in-Some-resource_of.resource (c.in-Some-resource_of.ensures ∙ ap resource_of parts.0) c.in_default-judge_claim.ensures
    c.verdict_for.result c.key.result.now c.split_target.result.1.now c.verdict_for.ensures c.key.ensures parts.1
