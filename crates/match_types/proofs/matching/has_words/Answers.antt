use Rattle.std.proofs.Common.{[], Contains, rules, zero-le}
use Rattle.std.proofs.lemmas.Bool.{MatchBool-at_true, MatchBool-at_false, true_from_ne_false}
use Rattle.std.proofs.lemmas.Iterator.{cases_from_all, YieldsList-from_slice}
use Rattle.match_types.proofs.matching.has_words.Goals as goal

pub returns : goal.returns
returns c =
    let cases = cases_from_all _ _ c.all.result (λ word. Contains c.args.words.now word) (λ word. ¬ (Contains c.args.words.now word)) c.all.ensures.ran
    (YieldsList-from_slice c.args.wanted.now c.iter.ensures.rest) (λ x q k. search rules) (λ x q k. search rules) in (
      λ yes k d low. MatchBool-at_true _ _ yes cases k d zero-le low,
      λ all. true_from_ne_false _ (λ no. let miss = MatchBool-at_false _ _ no cases in miss.2 [] (all miss.0 [] miss.1)),
    )
