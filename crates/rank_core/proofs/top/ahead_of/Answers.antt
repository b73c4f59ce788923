use Rattle.std.proofs.Common.{◌≡◌, IfSome, IsTrue, false, sym, subst, rules, arith}
use Rattle.std.proofs.lemmas.List.Elements.{All-more}
use Rattle.std.proofs.lemmas.Option.{slice_get_past}
use Rattle.auction_types.specs.Order.{better}
use Rattle.rank_core.proofs.top.ahead_of.Goals as goal

pub loop-other-preserved : goal.loop-other-preserved
loop-other-preserved c = (
  omega (arith, c.loop-other.invariant.0),
  All-more (λ other. IsTrue (better other c.args.ad.now)) c.args.leading.now c.loop-other.other-index c.other-item.result c.loop-other-test.true c.loop-other.invariant.1 (
      subst (λ other. IsTrue (better other c.args.ad.now)) c.other-item.is (search rules)),
)

pub returns-clause-behind : goal.returns-clause-behind
returns-clause-behind c =
    subst (λ found. IfSome found (λ other. better other c.args.ad.now ≡ false))
    (sym (slice_get_past c.args.leading.now c.loop-other.ahead (omega (arith, c.loop-other.invariant.0, c.loop-other-test.false)))) tt
