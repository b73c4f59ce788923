-- Room for changes, and what a change leaves of it.
use Rattle.std.proofs.Common.{◌≡◌, ℕ, ◌+◌, ◌≤◌, List, [], ◌∷◌, ◌++◌, length, take, get_or, refl, sym, ap, subst, ◌∙◌, arith}
use Rattle.std.specs.List.{All}
use Rattle.std.proofs.lemmas.List.Elements.{All-head, All-more, All-nil, All-tail, All-weaker}
use Rattle.desk_types.specs.declared.tables.Change.{Change}
use Rattle.desk_types.specs.declared.tables.Change.TheVariants.{PutAccount, PutCampaign, PutBudget, PutLine, PutNegative, PutPlacement, PutBatch, PutFate}
use Rattle.desk_types.specs.declared.tables.Tables.{Tables}
use Rattle.desk_types.specs.Tables.{put, put_all}
use Rattle.accounts.specs.AtHome.{AreAtHome}
use Rattle.accounts.specs.BookValue.{BookValue, HasLeft, HasRoom, HasRoomFor, Room}

-- where so many rows are put, there is room for as many less
pub room-left : (before after : Room) (count rest : ℕ) (change : Change) → HasLeft count before after → HasRoomFor before (count + rest) change → HasRoomFor after rest change
room-left before after count rest (PutAccount a) left h = record { accounts = omega (arith, left.accounts, h.accounts); rows = tt }
room-left before after count rest (PutCampaign c) left h = record { accounts = tt; rows = omega (arith, (left.rows c.account).campaigns, h.rows) }
room-left before after count rest (PutBudget b) left h = record { accounts = tt; rows = omega (arith, (left.rows b.account).budgets, h.rows) }
room-left before after count rest (PutLine l) left h = record { accounts = tt; rows = omega (arith, (left.rows l.account).lines, h.rows) }
room-left before after count rest (PutNegative n) left h = record { accounts = tt; rows = omega (arith, (left.rows n.account).negatives, h.rows) }
room-left before after count rest (PutPlacement p) left h = record { accounts = tt; rows = tt }
room-left before after count rest (PutBatch b) left h = record { accounts = tt; rows = omega (arith, (left.rows b.account).batches, h.rows) }
room-left before after count rest (PutFate number fate) left h = record { accounts = tt; rows = tt }

pub room-kept : (before after : Room) (count : ℕ) (change : Change) → HasLeft 0 before after → HasRoomFor before count change → HasRoomFor after count change
room-kept before after count change left h =
    let same : count ≡ 0 + count = omega arith in
    room-left before after 0 count change left (subst (λ n. HasRoomFor before n change) same h)

-- room for more is room for fewer
pub room-fewer : (room : Room) (few many : ℕ) (change : Change) → few ≤ many → HasRoomFor room many change → HasRoomFor room few change
room-fewer room few many (PutAccount a) low h = record { accounts = omega (arith, low, h.accounts); rows = tt }
room-fewer room few many (PutCampaign c) low h = record { accounts = tt; rows = omega (arith, low, h.rows) }
room-fewer room few many (PutBudget b) low h = record { accounts = tt; rows = omega (arith, low, h.rows) }
room-fewer room few many (PutLine l) low h = record { accounts = tt; rows = omega (arith, low, h.rows) }
room-fewer room few many (PutNegative n) low h = record { accounts = tt; rows = omega (arith, low, h.rows) }
room-fewer room few many (PutPlacement p) low h = record { accounts = tt; rows = tt }
room-fewer room few many (PutBatch b) low h = record { accounts = tt; rows = omega (arith, low, h.rows) }
room-fewer room few many (PutFate number fate) low h = record { accounts = tt; rows = tt }

-- room is made for the changes up to an index, and the rows stay
pub record IsMade (before after : BookValue) (list : List Change) (index : ℕ) : Type 0 where
  pub tables : after.tables ≡ before.tables
  pub room : All (HasRoomFor after.room (length list)) (take index list)

pub made_none : (before : BookValue) (list : List Change) → IsMade before before list 0
made_none before list = record { tables = refl; room = All-nil (HasRoomFor before.room (length list)) }

pub made_more : (before between after : BookValue) (list : List Change) (index : ℕ) (change : Change) → index + 1 ≤ length list → change ≡ get_or list index change → IsMade before between list index
    → after.tables ≡ between.tables → HasLeft 0 between.room after.room → HasRoomFor after.room (length list) change → IsMade before after list (index + 1)
made_more before between after list index change low at h same left room = record {
  tables = same ∙ h.tables;
  room = All-more (HasRoomFor after.room (length list)) list index change (omega (arith, low))
      (All-weaker (HasRoomFor between.room (length list)) (HasRoomFor after.room (length list)) (λ c k. room-kept between.room after.room (length list) c left k) (take index list) h.room)
      (subst (HasRoomFor after.room (length list)) at room);
}

-- changes are put up to these, the rest can be put, and there is room for it
pub record ArePut (before after : BookValue) (done rest : List Change) : Type 0 where
  pub tables : after.tables ≡ put_all before.tables done
  pub at_home : AreAtHome after.tables rest
  pub room : HasRoom after.room rest

pub put_none : (before : BookValue) (rest : List Change) → AreAtHome before.tables rest → HasRoom before.room rest → ArePut before before [] rest
unfolding put_all
put_none before rest home room = record { tables = refl; at_home = home; room = room }

put_all-push : (T : Tables) (done : List Change) (change : Change) → put_all T (done ++ change ∷ []) ≡ put (put_all T done) change
unfolding put_all
put_all-push T [] change = refl
put_all-push T (c ∷ done) change = put_all-push (put T c) done change

pub put_more : (before between after : BookValue) (done rest : List Change) (change : Change) → ArePut before between done (change ∷ rest) → after.tables ≡ put between.tables change → HasLeft 1 between.room after.room
    → ArePut before after (done ++ change ∷ []) rest
put_more before between after done rest change h is left = record {
  tables = is ∙ ap (λ T. put T change) h.tables ∙ sym (put_all-push before.tables done change);
  at_home = subst (λ T. AreAtHome T rest) (sym is) h.at_home.1;
  room = All-weaker (HasRoomFor between.room (length (change ∷ rest))) (HasRoomFor after.room (length rest))
      (λ c k. room-left between.room after.room 1 (length rest) c left (subst (λ n. HasRoomFor between.room n c) (omega arith) k)) rest
      (All-tail (HasRoomFor between.room (length (change ∷ rest))) change rest h.room);
}

pub room_next : (room : Room) (change : Change) (rest : List Change) → HasRoom room (change ∷ rest) → HasRoomFor room 1 change
room_next room change rest h =
    room-fewer room 1 (length (change ∷ rest)) change (omega arith) (All-head (HasRoomFor room (length (change ∷ rest))) change rest h)
