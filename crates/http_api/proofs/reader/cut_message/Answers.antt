use Rattle.std.proofs.Common.{◌≡◌, ℕ, List, [], length, take, Result, Err, sym, ap, subst, length-take, arith}
use Rattle.std.proofs.lemmas.Result.{err_from_is_err_and}
use Rattle.httparse.specs.declared.spans.RequestSpans.{RequestSpans}
use Rattle.http_api.specs.declared.next_message.NextMessage.{NextMessage}
use Rattle.http_api.specs.Held.{IsSized, CutsMessage}
use Rattle.http_api.specs.Message.{IsHead}
use Rattle.http_api.proofs.Growing.{head-in, cuts-short, cuts-whole}
use Rattle.http_api.proofs.HeadEnds.{head_length-within}
use Rattle.http_api.proofs.Messages.{head-held, body-within}
use Rattle.http_api.proofs.reader.cut_message.Goals as goal

pub slice_bounds-read_parts-end : goal.slice_bounds-read_parts-end
slice_bounds-read_parts-end g c =
    let window = c.read_head.new.window in
    let holds = head-in _ _ (g.S.Source.source c.args.source.now).left c.args.window.now.held window window [] c.in_ok-size.size c.in_ok-size.ensures.reads in
    let within = head_length-within window.held c.in_ok-size.size holds.ends in
    omega (arith, length-take c.in_ok-size.size c.held.result.now, ap (length {A = ℕ}) c.held.ensures)

pub read_parts-requires-clause-head : goal.read_parts-requires-clause-head
read_parts-requires-clause-head g c =
    let window = c.read_head.new.window in
    let size = c.in_ok-size.size in
    let holds = head-in _ _ (g.S.Source.source c.args.source.now).left c.args.window.now.held window window [] size c.in_ok-size.ensures.reads in
    subst (λ (bytes : List ℕ). IsHead (take size bytes)) (sym c.held.ensures) (head-held window.held size holds)

pub overflow_add-size : goal.overflow_add-size
overflow_add-size g c =
    let window = c.read_head.new.window in
    let holds = head-in _ _ (g.S.Source.source c.args.source.now).left c.args.window.now.held window window [] c.in_ok-size.size c.in_ok-size.ensures.reads in
    let low = body-within _ c.in-Ok.body c.in-Ok.ensures.reads.sized in
    omega (arith, holds.fits)

pub read_up_to-requires : goal.read_up_to-requires
read_up_to-requires g c =
    let window = c.read_head.new.window in
    let holds = head-in _ _ (g.S.Source.source c.args.source.now).left c.args.window.now.held window window [] c.in_ok-size.size c.in_ok-size.ensures.reads in
    let low = body-within _ c.in-Ok.body c.in-Ok.ensures.reads.sized in
    omega (arith, holds.fits, c.in_ok-size.ensures.size, c.requires.size)

pub overflow_add-size-in-Ok : goal.overflow_add-size-in-Ok
overflow_add-size-in-Ok g c =
    let window = c.read_head.new.window in
    let holds = head-in _ _ (g.S.Source.source c.args.source.now).left c.args.window.now.held window window [] c.in_ok-size.size c.in_ok-size.ensures.reads in
    let low = body-within _ c.in-Ok.body c.in-Ok.ensures.reads.sized in
    omega (arith, holds.fits)

pub overflow_add-size-in-Ok-2 : goal.overflow_add-size-in-Ok-2
overflow_add-size-in-Ok-2 g c =
    let window = c.read_head.new.window in
    let holds = head-in _ _ (g.S.Source.source c.args.source.now).left c.args.window.now.held window window [] c.in_ok-size.size c.in_ok-size.ensures.reads in
    let low = body-within _ c.in-Ok.body c.in-Ok.ensures.reads.sized in
    omega (arith, holds.fits)

pub returns-in_err-read_up_to-in-Ok-clause-cuts : goal.returns-in_err-read_up_to-in-Ok-clause-cuts
returns-in_err-read_up_to-in-Ok-clause-cuts g c =
    let start = (g.S.Source.source c.args.source.now).left in
    let between = (g.S.Source.source c.read_head.new.source).left in
    let left_now = (g.S.Source.source c.read_up_to.new.source).left in
    let held = c.args.window.now.held in
    let window = c.read_head.new.window in
    let now = c.read_up_to.new.window in
    let fields = c.read_parts.new.fields.items in
    let size = c.in_ok-size.size in
    let parts = c.in-Ok.parts in
    let body = c.in-Ok.body in
    let ending = c.in_err-read_up_to-in-Ok.field-0.0 in
    let sized = subst (λ (bytes : List ℕ). IsSized (take size bytes) fields parts body) c.held.ensures c.in-Ok.ensures.reads in
    let short = cuts-short start between left_now held window now fields size c.in_ok-size.ensures.reads parts body sized now.held c.in_err-read_up_to-in-Ok.ensures.grows ending c.in_err-read_up_to-in-Ok.ensures.up_to in
    let p = err_from_is_err_and c.from_residual-in_err-read_up_to-in-Ok.result c.from_residual-in_err-read_up_to-in-Ok.ensures.1 in
    let is : Err ending ≡ c.from_residual-in_err-read_up_to-in-Ok.result = cc in
    subst (λ (got : Result RequestSpans NextMessage). CutsMessage start left_now held now fields got) is short

pub returns-in_ok-read_up_to-in-Ok-clause-cuts : goal.returns-in_ok-read_up_to-in-Ok-clause-cuts
returns-in_ok-read_up_to-in-Ok-clause-cuts g c =
    let start = (g.S.Source.source c.args.source.now).left in
    let between = (g.S.Source.source c.read_head.new.source).left in
    let left_now = (g.S.Source.source c.read_up_to.new.source).left in
    let window = c.read_head.new.window in
    let fields = c.read_parts.new.fields.items in
    let size = c.in_ok-size.size in
    let parts = c.in-Ok.parts in
    let body = c.in-Ok.body in
    let sized = subst (λ (bytes : List ℕ). IsSized (take size bytes) fields parts body) c.held.ensures c.in-Ok.ensures.reads in
    cuts-whole start between left_now c.args.window.now.held window c.cut.new.self fields size c.in_ok-size.ensures.reads parts body sized c.read_up_to.new.window.held
    c.in_ok-read_up_to-in-Ok.ensures.grows c.in_ok-read_up_to-in-Ok.ensures.up_to c.cut.ensures.cut c.cut.ensures.held
