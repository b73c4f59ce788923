-- Placements that are shown one after another.
use Rattle.std.proofs.Common.{◌≡◌, ℕ, ◌+◌, ◌<◌, ◌≤◌, List, [], ◌∷◌, ◌++◌, length, map, take, drop, get_or, refl, sym, ap, subst, ◌∙◌, arith}
use Rattle.std.specs.List.{All}
use Rattle.std.proofs.lemmas.List.{drop_more, length_push, map-append, take_more}
use Rattle.std.proofs.lemmas.List.Elements.{All-push}
use Rattle.desk_types.specs.declared.limits.TheConstants.{MOMENT_MAX}
use Rattle.desk_types.specs.declared.rows.Placement.{Placement}
use Rattle.desk_types.specs.declared.tables.Change.{Change}
use Rattle.desk_types.specs.declared.tables.Change.TheVariants.{PutPlacement}
use Rattle.desk_types.specs.declared.tables.Tables.{Tables}
use Rattle.auction_types.specs.AdValue.{AdValue}
use Rattle.desk_types.specs.Changes.{all_placed, placed}
use Rattle.desk_types.specs.State.{State}
use Rattle.desk_types.specs.Tables.{put, put_all}
use Rattle.placements.specs.PlacementsValue.{AreNext}
use Rattle.desk_core.specs.LedgerValue.{LedgerValue}

-- the placements up to an index are put, the others can be shown behind them, and there is room for those
pub record ArePut (before after : LedgerValue) (list : List Placement) (index : ℕ) : Type 0 where
  pub state : after.state ≡ record before.state { tables = put_all before.state.tables (map PutPlacement (take index list)) }
  pub next : AreNext after.state.tables.placements (drop index list)
  pub room : length list ≤ after.spare.placements + index

put_all-push : (T : Tables) (done : List Change) (change : Change) → put_all T (done ++ change ∷ []) ≡ put (put_all T done) change
unfolding put_all
put_all-push T [] change = refl
put_all-push T (c ∷ done) change = put_all-push (put T c) done change

pub put_none : (before : LedgerValue) (list : List Placement) → AreNext before.state.tables.placements list → length list ≤ before.spare.placements → ArePut before before list 0
unfolding put_all
put_none before list next room = record { state = refl; next = next; room = omega (arith, room) }

-- the next of them, and those behind it
pub next_of : (between : LedgerValue) (list : List Placement) (index : ℕ) (d : Placement) → index < length list → AreNext between.state.tables.placements (drop index list)
    → AreNext between.state.tables.placements (get_or list index d ∷ drop (index + 1) list)
next_of between list index d low next = subst (AreNext between.state.tables.placements) (drop_more list index d low) next

pub put_more : (before between after : LedgerValue) (list : List Placement) (index : ℕ) (d : Placement) → index < length list → ArePut before between list index
    → after.state ≡ record between.state { tables = put between.state.tables (PutPlacement (get_or list index d)) }
    → after.state.tables.placements ≡ between.state.tables.placements ++ get_or list index d ∷ [] → between.spare.placements ≤ after.spare.placements + 1 → ArePut before after list (index + 1)
unfolding put
put_more before between after list index d low h is rows left =
    let T = before.state.tables in
    let p = get_or list index d in
    let more : map PutPlacement (take (index + 1) list) ≡ map PutPlacement (take index list) ++ PutPlacement p ∷ [] =
    ap (map PutPlacement) (take_more list index d low) ∙ map-append PutPlacement (take index list) (p ∷ []) in
    record {
      state = is ∙ ap (λ (S : State). record S { tables = put S.tables (PutPlacement p) }) h.state
          ∙ ap (λ U. record before.state { tables = U }) (sym (put_all-push T (map PutPlacement (take index list)) (PutPlacement p)) ∙ ap (put_all T) (sym more));
      next = subst (λ shown. AreNext shown (drop (index + 1) list)) (sym rows) (next_of between list index d low h.next).1;
      room = omega (arith, h.room, left);
    }

-- the placements of a page can be shown behind those that are there
pub placed_next : (S : State) (entered : List AdValue) (rows : List Placement) (number : ℕ) (ads : List AdValue) → S.moment ≤ MOMENT_MAX → All (λ p. p.shown ≤ S.moment) rows → number ≡ length rows + 1
    → AreNext rows (all_placed S entered number ads)
placed_next S entered rows number [] moment past is = tt
placed_next S entered rows number (a ∷ ads) moment past is =
    let p = placed S entered number a in (
      record { number = is; moment = past; deadline = refl; within = moment },
      placed_next S entered (rows ++ p ∷ []) (number + 1) ads moment (All-push (λ (q : Placement). q.shown ≤ S.moment) rows p past (omega arith)) (omega (arith, is, length_push rows p)),
    )
