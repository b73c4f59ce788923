use Rattle.std.proofs.Common.{sym, ◌∙◌, arith}
use Rattle.http_api.proofs.FieldsLemmas.{closes_here, open_to_end, stays_open}
use Rattle.http_api.proofs.close.asks_to_close.Goals as goal

pub returns-then-is_close : goal.returns-then-is_close
returns-then-is_close c =
    closes_here c.args.head.now c.loop-place.place (c.field.result.0.now, c.field.result.1.now) c.field.ensures (sym c.if-is_close.true ∙ c.is_close.ensures)

pub loop-place-preserved : goal.loop-place-preserved
loop-place-preserved c =
    stays_open c.args.head.now c.loop-place.place (c.field.result.0.now, c.field.result.1.now) c.field.ensures c.loop-place.invariant (sym c.if-is_close.false ∙ c.is_close.ensures)

pub returns : goal.returns
returns c =
    open_to_end c.args.head.now c.loop-place.place (omega (arith, c.field_count-place-end.ensures)) (λ old. c.if-minor-eq0.false (c.minor.ensures ∙ old)) c.loop-place.invariant
