use Rattle.std.proofs.Common.{ℕ, ◌-◌, eqb, unwrap_or, subst, arith}
use Rattle.std.specs.HashMap.{get}
use Rattle.placements.specs.Linked.{AreKept}
use Rattle.placements.specs.PlacementsValue.{PlacementsValue}
use Rattle.placements.proofs.Walking.{link_own, link_within}
use Rattle.placements.proofs.placements.Placements.earlier.Goals as goal

pub on_day-requires : goal.on_day-requires
on_day-requires c =
    let last = λ (account : ℕ). unwrap_or (get eqb c.self.inside.last account) 0 in
    let kept = subst (λ (V : PlacementsValue). AreKept V.rows c.self.inside.before.items last) c.self.view_is c.self.invariant in
    let low = link_within c.args.self.now.rows c.self.inside.before.items last c.args.number c.index-before.result.now kept c.requires.some c.requires.within c.index-before.ensures in
    omega (arith, low, c.requires.within)

pub returns : goal.returns
returns c = λ account d own.
    let last = λ (account : ℕ). unwrap_or (get eqb c.self.inside.last account) 0 in
    let kept = subst (λ (V : PlacementsValue). AreKept V.rows c.self.inside.before.items last) c.self.view_is c.self.invariant in
    let link = link_own c.args.self.now.rows c.self.inside.before.items last c.args.number c.index-before.result.now account d kept c.requires.some c.requires.within c.index-before.ensures own in
    c.on_day.ensures account (c.args.number - 1) (omega (arith, c.requires.within)) link
