use Rattle.std.proofs.Common.{◌≡◌, ℕ, ◌<◌, ◌≤◌, ap, sym, subst, ◌∙◌, arith}
use Rattle.std.specs.Prelude.{All, Any, Some, None}
use Rattle.turn_lock.specs.Lists.{IsPrefix, items_by}
use Rattle.turn_lock.specs.LockValues.{PassValue, LockValue}
use Rattle.turn_lock.proofs.Closing.{Ends, ends}
use Rattle.turn_lock.proofs.lock.TurnLock.close.Given.{Over}
use Rattle.turn_lock.proofs.lock.TurnLock.close.Goals as goal

pub unite-seat-requires-clause-some : goal.unite-seat-requires-clause-some
unite-seat-requires-clause-some g c =
    let some_caller : 0 < c.args.self.callers = subst (λ (n : ℕ). 0 < n) (ap (λ (l : LockValue g.row.V-Name.Denot). l.callers) c.self.view_is) c.self.invariant.2 in
    let first = c.requires.passes.each 1 (omega arith) (omega arith) in
    let there = first.2 in
    let long = c.args.passes.ok in
    omega arith

pub unreachable-requires : goal.unreachable-requires
unreachable-requires g c =
    let e = ends _ _ _ _ _ _ _ _ _ _ _ c.unite-seat.ensures.knows
    (λ n low high. c.requires.passes.each n low (subst (λ (m : ℕ). n ≤ m) (ap (λ (l : LockValue g.row.V-Name.Denot). l.callers) c.self.view_is) high))
    c.close_with-closed.ensures.values.2 c.take-value.ensures.value in
    let clash : None ≡ Some e.value = sym c.in-None.is ∙ e.is in cc

ended : (g : Over) (c : goal.In-Some g) → Ends g.V.Grows.items g.V.Grows.by g.V.Grows.name (g.V.Grows.name c.self.inside.table.shared.key.value.value) c.self.inside.table.shared.key.callers c.args.passes.items c.take-value.result
ended g c = ends _ _ _ _ _ _ _ _ _ _ _ c.unite-seat.ensures.knows
    (λ n low high. c.requires.passes.each n low (subst (λ (m : ℕ). n ≤ m) (ap (λ (l : LockValue g.row.V-Name.Denot). l.callers) c.self.view_is) high))
    c.close_with-closed.ensures.values.2 c.take-value.ensures.value

same : (g : Over) (c : goal.In-Some g) → (ended g c).value ≡ c.in-Some.value
same g c = let values : Some (ended g c).value ≡ Some c.in-Some.value = sym (ended g c).is ∙ c.in-Some.is in cc

pub returns-clause-name : goal.returns-clause-name
returns-clause-name g c = ap g.V.Grows.name (sym (same g c)) ∙ ((ended g c).named ∙ ap (λ (l : LockValue g.row.V-Name.Denot). l.id.name) c.self.view_is)

pub returns-clause-seen : goal.returns-clause-seen
returns-clause-seen g c = subst (λ (v : g.row.V.Denot). All (λ (p : PassValue g.row.V-Item.Denot g.row.V-Name.Denot). IsPrefix p.seen (g.V.Grows.items v)) c.args.passes.items) (same g c) (ended g c).prefix

pub returns-clause-own : goal.returns-clause-own
returns-clause-own g c = subst (λ (v : g.row.V.Denot). All (λ (p : PassValue g.row.V-Item.Denot g.row.V-Name.Denot). items_by g.V.Grows.by p.number (g.V.Grows.items v) ≡ items_by g.V.Grows.by p.number p.seen) c.args.passes.items) (same g c) (ended g c).own

pub returns-clause-others : goal.returns-clause-others
returns-clause-others g c = subst (λ (v : g.row.V.Denot). All (λ (x : g.row.V-Item.Denot). Any (λ (p : PassValue g.row.V-Item.Denot g.row.V-Name.Denot). p.number ≡ g.V.Grows.by x) c.args.passes.items) (g.V.Grows.items v)) (same g c) (ended g c).others
