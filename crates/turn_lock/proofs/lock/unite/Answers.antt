use Rattle.std.proofs.Common.{rules, ◌≡◌, ◌++◌, ◌∷◌, [], sym, ap, ◌∙◌}
use Rattle.std.specs.Prelude.{Some}
use Rattle.std.proofs.lemmas.List.Elements.{All-pop}
use Rattle.turn_lock.specs.LockValues.{PassValue}
use Rattle.turn_lock.specs.Steps.{Seated}
use Rattle.turn_lock.proofs.SeatKeeps.{may_join}
use Rattle.turn_lock.proofs.Uniting.{table_of, unions_first, unions_more, unions_all, popped_none}
use Rattle.turn_lock.proofs.lock.unite.Goals as goal

pub loop-pass-init : goal.loop-pass-init
loop-pass-init g c =
    let e : c.args.passes.items ≡ c.pop.new.self.items ++ c.in-Some.last ∷ [] = c.in-Some.ensures.items in
    let popped = All-pop (λ (p : PassValue g.row.V-Item.Denot g.row.V-Name.Denot). p.lock.table ≡ c.args.words.now.table_id) c.args.passes.items c.pop.new.self.items (Some c.in-Some.last) e c.requires.passes in
    (sym (table_of _ _ _ c.into_seat-seat.ensures) ∙ popped.1, unions_first _ _ _ _ _ e c.into_seat-seat.ensures, popped.0)

pub join_seat-requires : goal.join_seat-requires
join_seat-requires g c =
    let e : c.loop-pass.passes.items ≡ c.pop-in-loop-pass.new.self.items ++ c.in-Some-pop.pass ∷ [] = c.in-Some-pop.ensures.items in
    let popped = All-pop (λ (p : PassValue g.row.V-Item.Denot g.row.V-Name.Denot). p.lock.table ≡ c.args.words.now.table_id) c.loop-pass.passes.items c.pop-in-loop-pass.new.self.items (Some c.in-Some-pop.pass) e c.loop-pass.invariant.2 in
    let union = c.loop-pass.invariant.1 in
    let seat = c.into_seat.ensures.seat in (
      c.loop-pass.invariant.0,
      sym (table_of _ _ _ c.into_seat.ensures) ∙ popped.1,
      ap (λ (m : Seated g.row.V.Denot g.row.V-Item.Denot g.row.V-Name.Denot). m.1) seat.is,
      search rules,
      may_join _ _ _ _ _ _ _ union.known seat.known _ _ union.is seat.is union.away seat.away,
    )

pub loop-pass-preserved : goal.loop-pass-preserved
loop-pass-preserved g c =
    let e : c.loop-pass.passes.items ≡ c.pop-in-loop-pass.new.self.items ++ c.in-Some-pop.pass ∷ [] = c.in-Some-pop.ensures.items in
    let popped = All-pop (λ (p : PassValue g.row.V-Item.Denot g.row.V-Name.Denot). p.lock.table ≡ c.args.words.now.table_id) c.loop-pass.passes.items c.pop-in-loop-pass.new.self.items (Some c.in-Some-pop.pass) e c.loop-pass.invariant.2 in
    let join = c.join_seat.ensures in
    (join.0 ∙ c.loop-pass.invariant.0, unions_more _ _ _ _ _ _ _ _ e c.loop-pass.invariant.1 c.into_seat.ensures join.2, popped.0)

pub returns-clause-knows : goal.returns-clause-knows
returns-clause-knows g c =
    let popped = c.in_default-pop.ensures in
    unions_all _ _ _ (popped_none _ _ _ popped.items popped.rest popped.cases.0) c.loop-pass.invariant.1
