use Rattle.std.proofs.Common.{◌≡◌, ◌<◌, ◌≤◌, All, IfSome, IsTrue, false, true, filter, insert, length, slice_get, take, ap, sym, subst, ◌∙◌, rules, arith}
use Rattle.std.specs.List.{list_any}
use Rattle.auction_types.specs.AdValue.{IsBid, IsInRange, IsQuality}
use Rattle.auction_types.specs.Order.{better}
use Rattle.arrayvec.proofs.ArrayVecLemmas.{filter-from_retain}
use Rattle.rank_core.proofs.FirstsLemmas.{is_of, is_other}
use Rattle.rank_core.proofs.Offers.{more-in_range, put-is, put-fits, same-at_all, same-at_own, IsTopOf-with}
use Rattle.rank_core.proofs.top.Top.put.Goals as goal

pub returns-then-ahead-ge9 : goal.returns-then-ahead-ge9
returns-then-ahead-ge9 c offered top =
    let in_range : IsInRange c.args.ad = (subst IsBid c.bid.ensures.bid c.bid.ensures.in_range, subst IsQuality c.quality.ensures.quality c.quality.ensures.in_range) in
    let same : c.as_slice.result.now ≡ c.args.self.now = search rules in
    same-at_all offered c.args.ad c.args.self.now c.ahead_of-ahead.result (more-in_range offered c.args.ad top.in_range in_range) top c.if-ahead-ge9.true
    (subst (λ ys. c.ahead_of-ahead.result ≤ length ys) same c.ahead_of-ahead.ensures.fits)
    (subst (λ ys. All (λ other. IsTrue (better other c.args.ad)) (take c.ahead_of-ahead.result ys)) same c.ahead_of-ahead.ensures.ahead)

pub returns-then-has_account : goal.returns-then-has_account
returns-then-has_account c offered top =
    let in_range : IsInRange c.args.ad = (subst IsBid c.bid.ensures.bid c.bid.ensures.in_range, subst IsQuality c.quality.ensures.quality c.quality.ensures.in_range) in
    let same : c.as_slice.result.now ≡ c.args.self.now = search rules in
    let found : list_any (is_of c.args.ad) (take c.ahead_of-ahead.result c.args.self.now) ≡ true = search rules in
    same-at_own offered c.args.ad c.args.self.now c.ahead_of-ahead.result (more-in_range offered c.args.ad top.in_range in_range) top
    (subst (λ ys. All (λ other. IsTrue (better other c.args.ad)) (take c.ahead_of-ahead.result ys)) same c.ahead_of-ahead.ensures.ahead) found

pub insert-requires : goal.insert-requires
insert-requires c =
    let same : c.as_slice.result.now ≡ c.args.self.now = search rules in
    let none : list_any (is_of c.args.ad) (take c.ahead_of-ahead.result c.args.self.now) ≡ false = search rules in
    let kept : c.retain.new.self.items ≡ filter (is_other c.args.ad) c.args.self.now
    = filter-from_retain _ (is_other c.args.ad) _ (λ x b f y h. search rules) _ _ c.retain.ensures.filtered ∙ ap (filter (is_other c.args.ad)) (sym c.as_slice.ensures.value ∙ same) in
    let fits = put-fits c.args.ad c.args.self.now c.retain.new.self.items c.ahead_of-ahead.result
    (subst (λ ys. c.ahead_of-ahead.result ≤ length ys) same c.ahead_of-ahead.ensures.fits) (omega (arith, c.if-ahead-ge9.false)) none kept in (
      omega arith,
      (
        subst (λ ys. c.ahead_of-ahead.result ≤ length ys) (sym c.truncate.ensures.items) fits.0,
        subst (λ ys. length ys < 9) (sym c.truncate.ensures.items) fits.1,
      ),
    )

pub returns : goal.returns
returns c offered top =
    let in_range : IsInRange c.args.ad = (subst IsBid c.bid.ensures.bid c.bid.ensures.in_range, subst IsQuality c.quality.ensures.quality c.quality.ensures.in_range) in
    let same : c.as_slice.result.now ≡ c.args.self.now = search rules in
    let none : list_any (is_of c.args.ad) (take c.ahead_of-ahead.result c.args.self.now) ≡ false = search rules in
    let kept : c.retain.new.self.items ≡ filter (is_other c.args.ad) c.args.self.now
    = filter-from_retain _ (is_other c.args.ad) _ (λ x b f y h. search rules) _ _ c.retain.ensures.filtered ∙ ap (filter (is_other c.args.ad)) (sym c.as_slice.ensures.value ∙ same) in
    IsTopOf-with offered c.args.ad c.args.self.now c.insert.new.self.items (more-in_range offered c.args.ad top.in_range in_range) top (
    put-is c.args.ad c.args.self.now c.retain.new.self.items c.insert.new.self.items c.ahead_of-ahead.result
    (subst (λ ys. c.ahead_of-ahead.result ≤ length ys) same c.ahead_of-ahead.ensures.fits) (omega (arith, c.if-ahead-ge9.false))
    (subst (λ ys. All (λ other. IsTrue (better other c.args.ad)) (take c.ahead_of-ahead.result ys)) same c.ahead_of-ahead.ensures.ahead)
    (subst (λ ys. IfSome (slice_get ys c.ahead_of-ahead.result) (λ other. better other c.args.ad ≡ false)) same c.ahead_of-ahead.ensures.behind)
    none kept
    (c.insert.ensures.items ∙ ap (λ ys. insert ys c.ahead_of-ahead.result c.args.ad) c.truncate.ensures.items)
    )
