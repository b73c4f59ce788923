use Rattle.std.proofs.Common.{arith, refl}
use Rattle.std.proofs.lemmas.Bool.{false≢true}
use Rattle.match_types.proofs.Phrases.{starts_at, missing_more, no_phrase}
use Rattle.match_types.proofs.matching.has_phrase.Goals as goal

pub returns-then-starts_with : goal.returns-then-starts_with
returns-then-starts_with c =
    let found = starts_at c.args.phrase.now c.args.words.now c.loop-start.start _ c.loop-start-test.true c.if-starts_with.ensures.value in
    (λ _. found.0 refl, λ _. refl)

pub loop-start-preserved : goal.loop-start-preserved
loop-start-preserved c =
    let found = starts_at c.args.phrase.now c.args.words.now c.loop-start.start _ c.loop-start-test.true c.if-starts_with.ensures.value in
    missing_more _ _ _ c.loop-start.invariant (λ rest e. false≢true (found.1 rest e))

pub returns-else-starts_with : goal.returns-else-starts_with
returns-else-starts_with c =
    let found = starts_at c.args.phrase.now c.args.words.now c.loop-start.start _ c.loop-start-test.true c.if-starts_with.ensures.value in
    let missing = missing_more _ _ _ c.loop-start.invariant (λ rest e. false≢true (found.1 rest e)) in
    (λ yes. absurd (false≢true yes), λ has. absurd (no_phrase _ _ _ missing (omega arith) has))
