use Rattle.std.proofs.Common.{◌∙◌}
use Rattle.http_api.proofs.JsonEscaping.{cut_at, Escaping-more, Escaping-stopped, Escaping-end}
use Rattle.http_api.proofs.json.put_escaped.Goals as goal

pub returns-in_err-put_all-clause-puts : goal.returns-in_err-put_all-clause-puts
returns-in_err-put_all-clause-puts g c =
    let cut = cut_at c.loop-place.rest.now c.in-Some.place c.in-Some.ensures c.split_at.ensures.front c.split_at.ensures.back c.split_at-in-Some.ensures.front c.split_at-in-Some.ensures.back in
    Escaping-stopped c.loop-place.invariant.escaping cut c.in_err-put_all.ensures.puts c.from_residual.ensures.0

pub loop-place-preserved : goal.loop-place-preserved
loop-place-preserved g c =
    let cut = cut_at c.loop-place.rest.now c.in-Some.place c.in-Some.ensures c.split_at.ensures.front c.split_at.ensures.back c.split_at-in-Some.ensures.front c.split_at-in-Some.ensures.back in
    record {
      escaping = Escaping-more c.loop-place.invariant.escaping cut c.in_ok-put_all.ensures.puts;
      source_side = c.in_ok-put_all.ensures.source_side ∙ c.loop-place.invariant.source_side;
    }

pub returns-clause-puts : goal.returns-clause-puts
returns-clause-puts g c = Escaping-end c.loop-place.invariant.escaping c.in_default.ensures c.put.ensures.puts
