use Rattle.std.proofs.Common.{◌≡◌, false, true, ◌+◌, ◌*◌, [], ◌∷◌, refl, subst, arith}
use Rattle.desk_types.specs.declared.call.Call.{Call}
use Rattle.drill_calls.specs.Making.{standing, AreCalled, AreCalledInPart}
use Rattle.drill_calls.proofs.MakingCalls.{part-none, made-one, part-one}
use Rattle.drill_calls.proofs.run.Progress.make.Goals as goal

pub returns-in_default-clause-makes : goal.returns-in_default-clause-makes
returns-in_default-clause-makes g c = λ asked is.
    part-none (standing (g.V.Service.service c.args.service.now) c.args.self.now.made c.args.self.now.greatest) (asked ∷ []) c.history_is_legal.ensures.legal

pub returns-then-lacks_memory-clause-makes : goal.returns-then-lacks_memory-clause-makes
returns-then-lacks_memory-clause-makes g c = λ asked is.
    let same : c.in-Ok.call ≡ asked = rw c.in-Ok.is at is in
    let before = g.V.Service.service c.args.service.now in
    let now = g.V.Service.service c.call-answer.new.self in
    let made = c.args.self.now.made in
    let most = c.args.self.now.greatest in
    subst (λ (call : Call). AreCalledInPart (standing before made most) (standing now (made + 1) c.max-self.result) (call ∷ [])) same
    (part-one before now made (made + 1) most c.max-self.result (60 * (made + 1)) c.in-Ok.call c.call-answer.result c.call-answer.ensures.serves refl refl)

pub returns-clause-makes : goal.returns-clause-makes
returns-clause-makes g c = λ asked is.
    let same : c.in-Ok.call ≡ asked = rw c.in-Ok.is at is in
    let before = g.V.Service.service c.args.service.now in
    let now = g.V.Service.service c.call-answer.new.self in
    let made = c.args.self.now.made in
    let most = c.args.self.now.greatest in
    subst (λ (call : Call). AreCalled (standing before made most) (standing now (made + 1) c.max-self.result) (call ∷ [])) same
    (made-one before now made (made + 1) most c.max-self.result (60 * (made + 1)) c.in-Ok.call c.call-answer.result c.call-answer.ensures.serves refl refl
    (λ none. let no : false ≡ true = c.if-lacks_memory.ensures.1 none in cc)
    (omega (arith, c.max-self.ensures, c.greatest_placement.ensures)))
