use Rattle.std.proofs.Common.{◌≡◌, ◌∷◌, [], List, length, refl, sym, ap, subst, ◌∙◌, append_assoc, append-nil, arith}
use Rattle.std.specs.Vec.Iter.{into_iter_items}
use Rattle.desk_types.specs.Tables.{put_all}
use Rattle.desk_keeper.proofs.Putting.{ArePut, put_more, put_none}
use Rattle.desk_keeper.proofs.rows.Rows.put_all.Goals as goal

nothing_left : {X : Type 0} (l : List X) → length l ≡ 0 → l ≡ []
nothing_left [] h = refl
nothing_left (x ∷ xs) h = absurd (omega arith)

pub loop-change-init : goal.loop-change-init
loop-change-init c =
    let gives = c.into_iter-change-iterator.ensures.into_iter_gives in (
      refl,
      put_none c.args.self.now c.args.in_order _ (omega (arith, ap length gives.0, c.requires.room)) c.requires.in_order,
      omega (arith, gives.1, ap length gives.0),
    )

pub put-requires-clause-in_order : goal.put-requires-clause-in_order
put-requires-clause-in_order c = c.loop-change.invariant.1.stands

pub put-requires-clause-room : goal.put-requires-clause-room
put-requires-clause-room c = omega (arith, c.loop-change.invariant.1.room, ap length c.in-Some.ensures.steps.0)

pub loop-change-preserved : goal.loop-change-preserved
loop-change-preserved c =
    let at = c.loop-change in
    let change = c.in-Some.change in
    let steps : into_iter_items at.change-iterator ≡ change ∷ into_iter_items c.next.new.self = c.in-Some.ensures.steps.0 in (
      append_assoc at.yielded (change ∷ []) _ ∙ rw (← steps) at.invariant.0,
      put_more c.args.self.now at.self c.put.new.self c.args.in_order at.yielded (into_iter_items c.next.new.self) change
          (subst (ArePut c.args.self.now at.self c.args.in_order at.yielded) steps at.invariant.1) c.put.ensures.put c.put.ensures.room,
      let was = at.invariant.2 in
          let gone = c.in-Some.ensures.steps.1 in
          let short = ap length steps in
          omega arith,
    )

pub returns : goal.returns
returns c =
    let at = c.loop-change in
    let none = c.in-None.ensures.steps in
    let empty : into_iter_items at.change-iterator ≡ [] = nothing_left _ (sym at.invariant.2 ∙ none.0) in
    let all = sym (append-nil at.yielded) ∙ rw empty at at.invariant.0 ∙ c.into_iter-change-iterator.ensures.into_iter_gives.0 in
    at.invariant.1.tables ∙ ap (put_all c.args.self.now.tables) all
