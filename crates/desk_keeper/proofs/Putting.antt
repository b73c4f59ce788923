-- Changes that are put to rows one after another.
use Rattle.std.proofs.Common.{◌≡◌, ℕ, ◌+◌, ◌≤◌, Bool, IsTrue, List, [], ◌∷◌, ◌++◌, Result, Ok, Err, OnOk, OnErr, length, refl, sym, ap, subst, ◌∙◌, arith}
use Rattle.desk_types.specs.declared.rows.Fate.{Fate}
use Rattle.desk_types.specs.declared.tables.Change.{Change}
use Rattle.desk_types.specs.declared.tables.Change.TheVariants.{PutFate}
use Rattle.desk_types.specs.declared.tables.Tables.{Tables}
use Rattle.desk_types.specs.Sound.{StandInOrder}
use Rattle.desk_types.specs.Tables.{placement_of, put, put_all, put_fate}
use Rattle.desk_types.proofs.InOrder.{StandInOrder-put}
use Rattle.desk_keeper.specs.RowsValue.{RowsValue}

-- changes are put up to these, there is room for the rest, and rows that stood in order still do
pub record ArePut (before after : RowsValue) (in_order : Bool) (done rest : List Change) : Type 0 where
  pub tables : after.tables ≡ put_all before.tables done
  pub room : length rest ≤ after.room
  pub stands : IsTrue in_order → StandInOrder after.tables

pub put_none : (before : RowsValue) (in_order : Bool) (rest : List Change) → length rest ≤ before.room → (IsTrue in_order → StandInOrder before.tables) → ArePut before before in_order [] rest
unfolding put_all
put_none before in_order rest room stands = record { tables = refl; room = room; stands = stands }

put_all-push : (T : Tables) (done : List Change) (change : Change) → put_all T (done ++ change ∷ []) ≡ put (put_all T done) change
unfolding put_all
put_all-push T [] change = refl
put_all-push T (c ∷ done) change = put_all-push (put T c) done change

pub put_more : (before between after : RowsValue) (in_order : Bool) (done rest : List Change) (change : Change) → ArePut before between in_order done (change ∷ rest)
    → after.tables ≡ put between.tables change → between.room ≤ after.room + 1 → ArePut before after in_order (done ++ change ∷ []) rest
put_more before between after in_order done rest change h is room = record {
  tables = is ∙ ap (λ T. put T change) h.tables ∙ sym (put_all-push before.tables done change);
  room = omega (arith, h.room, room);
  stands = λ yes. subst StandInOrder (sym is) (StandInOrder-put between.tables change (h.stands yes));
}

-- rows that stand in order do so after a fate, and after changes
pub stand-put_fate : (T : Tables) (number : ℕ) (fate : Fate) → StandInOrder T → StandInOrder (put_fate T fate (placement_of T number))
unfolding put
stand-put_fate T number fate h = StandInOrder-put T (PutFate number fate) h

pub stand-put_all : (T : Tables) (changes : List Change) → StandInOrder T → StandInOrder (put_all T changes)
unfolding put_all
stand-put_all T [] h = h
stand-put_all T (change ∷ changes) h = stand-put_all (put T change) changes (StandInOrder-put T change h)

-- one fate that is put
pub puts_one_fate : (T : Tables) (number : ℕ) (fate : Fate) → put_all T (PutFate number fate ∷ []) ≡ put_fate T fate (placement_of T number)
unfolding put_all put
puts_one_fate T number fate = refl

-- rows in order still stand so where changes are put, all or none
pub stand_after : {E : Type 0} (before after : Tables) (changes : List Change) (result : Result Unit E) → OnOk result (after ≡ put_all before changes) → OnErr result (after ≡ before)
    → StandInOrder before → StandInOrder after
stand_after before after changes (Ok done) put same h = subst StandInOrder (sym put) (stand-put_all before changes h)
stand_after before after changes (Err fault) put same h = subst StandInOrder (sym same) h
