use Rattle.std.proofs.Common.{◌≡◌, ◌∙◌, ℕ, ◌+◌, List, length, take, None, Err, refl, sym, ap, subst, false, length-take, arith}
use Rattle.desk_io.specs.declared.source.Got.TheVariants.{End, Failed}
use Rattle.http_api.specs.HeadEnd.{head_length}
use Rattle.http_api.specs.Held.{EndsAs}
use Rattle.http_api.specs.declared.limits.TheConstants.{HEAD_BYTES_MAX, BODY_BYTES_MAX}
use Rattle.http_api.specs.declared.next_message.NextMessage.TheVariants.{Faulty, ReadFault}
use Rattle.http_api.proofs.Growing.{reads-head, holds-head, held-short, grows-filled, grows-more, longer-filled, left-none, no_message-held, ending-end, ending-faulty}
use Rattle.http_api.proofs.Messages.{faulty-endless}
use Rattle.http_api.proofs.reader.read_head.Goals as goal

pub returns-in-Some-clause-reads : goal.returns-in-Some-clause-reads
returns-in-Some-clause-reads g c =
    let held = c.loop-size.window.held in
    reads-head _ _ _ held c.loop-size.window _ c.loop-size.invariant.grows (refl, holds-head held c.in-Some.size (c.in-Some.ensures ∙ ap head_length c.front-front.ensures))

pub cut-requires-clause-text : goal.cut-requires-clause-text
cut-requires-clause-text g c =
    let long = c.if-front-eq-HEAD_BYTES_MAX.true in
    omega (arith, ap (length {A = ℕ}) c.front-front.ensures, length-take HEAD_BYTES_MAX c.loop-size.window.held)

pub cut-requires-clause-through : goal.cut-requires-clause-through
cut-requires-clause-through g c =
    let long = c.if-front-eq-HEAD_BYTES_MAX.true in
    omega (arith, ap (length {A = ℕ}) c.front-front.ensures, length-take HEAD_BYTES_MAX c.loop-size.window.held)

pub returns-then-front-eq-HEAD_BYTES_MAX-clause-reads : goal.returns-then-front-eq-HEAD_BYTES_MAX-clause-reads
returns-then-front-eq-HEAD_BYTES_MAX-clause-reads g c =
    let held = c.loop-size.window.held in
    let none : None ≡ head_length (take HEAD_BYTES_MAX held) = c.in_default.ensures ∙ ap head_length c.front-front.ensures in
    let long : length (take HEAD_BYTES_MAX held) ≡ HEAD_BYTES_MAX = sym (ap (length {A = ℕ}) c.front-front.ensures) ∙ c.if-front-eq-HEAD_BYTES_MAX.true in
    reads-head (g.S.Source.source c.args.source.now).left (g.S.Source.source c.loop-size.source).left c.args.window.now.held held c.cut.new.self (Err (Faulty false)) c.loop-size.invariant.grows
    (ending-faulty held (g.S.Source.source c.loop-size.source).left c.cut.new.self (Faulty false) HEAD_BYTES_MAX c.cut.ensures.cut c.cut.ensures.held (faulty-endless held none long))

pub fill-requires : goal.fill-requires
fill-requires g c =
    let held = c.loop-size.window.held in
    let below = held-short held (λ long. c.if-front-eq-HEAD_BYTES_MAX.false (ap (length {A = ℕ}) c.front-front.ensures ∙ long)) in
    let size : c.loop-size.window.size ≡ HEAD_BYTES_MAX + BODY_BYTES_MAX = c.loop-size.invariant.size ∙ c.requires in
    omega arith

pub loop-size-smaller : goal.loop-size-smaller
loop-size-smaller g c =
    let held = c.loop-size.window.held in
    let below = held-short held (λ long. c.if-front-eq-HEAD_BYTES_MAX.false (ap (length {A = ℕ}) c.front-front.ensures ∙ long)) in
    let longer = longer-filled _ _ held c.fill.new.self.held _ c.in-Bytes.ensures.bytes in
    omega arith

pub returns-in-End-clause-reads : goal.returns-in-End-clause-reads
returns-in-End-clause-reads g c =
    let held = c.loop-size.window.held in
    let now = c.fill.new.self in
    let start = (g.S.Source.source c.args.source.now).left in
    let left = (g.S.Source.source c.loop-size.source).left in
    let left_now = (g.S.Source.source c.fill.new.source).left in
    let fills = c.in-End.ensures.bytes in
    let none : None ≡ head_length (take HEAD_BYTES_MAX held) = c.in_default.ensures ∙ ap head_length c.front-front.ensures in
    let grows = grows-more start left left_now c.args.window.now.held held now.held c.loop-size.invariant.grows (grows-filled left left_now held now.held End fills) in
    let no_message = no_message-held held now.held none (λ long. c.if-front-eq-HEAD_BYTES_MAX.false (ap (length {A = ℕ}) c.front-front.ensures ∙ long)) fills.grew in
    let ends = subst (λ (bytes : List ℕ). EndsAs bytes c.end_of.result) c.held.ensures c.end_of.ensures in
    reads-head start left_now c.args.window.now.held now.held now (Err c.end_of.result) grows
    (ending-end now.held left_now now c.end_of.result no_message (left-none left left_now held now.held fills) ends)

pub returns-in-Failed-clause-reads : goal.returns-in-Failed-clause-reads
returns-in-Failed-clause-reads g c =
    let held = c.loop-size.window.held in
    let now = c.fill.new.self in
    let start = (g.S.Source.source c.args.source.now).left in
    let left = (g.S.Source.source c.loop-size.source).left in
    let left_now = (g.S.Source.source c.fill.new.source).left in
    let fills = c.in-Failed.ensures.bytes in
    let none : None ≡ head_length (take HEAD_BYTES_MAX held) = c.in_default.ensures ∙ ap head_length c.front-front.ensures in
    let grows = grows-more start left left_now c.args.window.now.held held now.held c.loop-size.invariant.grows (grows-filled left left_now held now.held Failed fills) in
    let no_message = no_message-held held now.held none (λ long. c.if-front-eq-HEAD_BYTES_MAX.false (ap (length {A = ℕ}) c.front-front.ensures ∙ long)) fills.grew in
    reads-head start left_now c.args.window.now.held now.held now (Err ReadFault) grows no_message
