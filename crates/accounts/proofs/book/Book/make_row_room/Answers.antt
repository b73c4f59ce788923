use Rattle.std.proofs.Common.{ℕ, ◌-◌, ◌∙◌, List, set, sym, subst, ap, arith}
use Rattle.accounts.specs.AtHome.{HasOwner}
use Rattle.accounts.specs.BookValue.{BookValue, HasLeft, HasLeftSpare, ShelfValue}
use Rattle.accounts.specs.Shelved.{HasRowsOf}
use Rattle.accounts.proofs.Committing.{kept_at, left_at, made_at, on_ok, owner_within, room_of}
use Rattle.accounts.proofs.book.Book.make_row_room.Goals as goal

pub overflow_sub-place : goal.overflow_sub-place
overflow_sub-place c =
    let low = owner_within c.self.inside.shelves.items c.args.change.now c.self.invariant (subst (λ (b : BookValue). HasOwner b.tables c.args.change.now) (sym c.self.view_is) c.requires.owner) c.requires.row in
    omega (arith, low.0, c.owner_of.ensures)

pub index_mut-requires : goal.index_mut-requires
index_mut-requires c =
    let low = owner_within c.self.inside.shelves.items c.args.change.now c.self.invariant (subst (λ (b : BookValue). HasOwner b.tables c.args.change.now) (sym c.self.view_is) c.requires.owner) c.requires.row in
    omega (arith, low.0, low.1, c.owner_of.ensures)

pub invariant_of-self : goal.invariant_of-self
invariant_of-self c =
    let low = owner_within c.self.inside.shelves.items c.args.change.now c.self.invariant (subst (λ (b : BookValue). HasOwner b.tables c.args.change.now) (sym c.self.view_is) c.requires.owner) c.requires.row in
    (kept_at c.self.inside.shelves.items c.make_room_for.new.self _ (c.owner_of.result - 1) c.self.invariant (omega (arith, low.0, low.1, c.owner_of.ensures))
    (subst (λ (s : ShelfValue). HasRowsOf s c.make_room_for.new.self) c.index_mut.ensures.value c.make_room_for.ensures.rows)).0

pub returns-clause-tables : goal.returns-clause-tables
returns-clause-tables c =
    let low = owner_within c.self.inside.shelves.items c.args.change.now c.self.invariant (subst (λ (b : BookValue). HasOwner b.tables c.args.change.now) (sym c.self.view_is) c.requires.owner) c.requires.row in
    (kept_at c.self.inside.shelves.items c.make_room_for.new.self _ (c.owner_of.result - 1) c.self.invariant (omega (arith, low.0, low.1, c.owner_of.ensures))
    (subst (λ (s : ShelfValue). HasRowsOf s c.make_room_for.new.self) c.index_mut.ensures.value c.make_room_for.ensures.rows)).1
    ∙ ap (λ (b : BookValue). b.tables) c.self.view_is

pub returns-clause-room : goal.returns-clause-room
returns-clause-room c =
    let low = owner_within c.self.inside.shelves.items c.args.change.now c.self.invariant (subst (λ (b : BookValue). HasOwner b.tables c.args.change.now) (sym c.self.view_is) c.requires.owner) c.requires.row in
    let spare : ℕ = c.self.inside.shelves.cap - c.self.inside.shelves.len in
    on_ok c.make_room_for.result _ _ (λ h. made_at spare c.args.count c.self.inside.shelves.items c.make_room_for.new.self (c.owner_of.result - 1) c.args.change.now (omega (arith, c.owner_of.ensures)) (omega (arith, low.0, low.1, c.owner_of.ensures)) c.requires.row h)
    c.make_room_for.ensures.room

pub returns-clause-kept : goal.returns-clause-kept
returns-clause-kept c =
    let low = owner_within c.self.inside.shelves.items c.args.change.now c.self.invariant (subst (λ (b : BookValue). HasOwner b.tables c.args.change.now) (sym c.self.view_is) c.requires.owner) c.requires.row in
    let gs : List ShelfValue = c.self.inside.shelves.items in
    let spare : ℕ = c.self.inside.shelves.cap - c.self.inside.shelves.len in
    let place : ℕ = c.owner_of.result - 1 in
    let left : HasLeft 0 (room_of spare gs) (room_of spare (set gs place c.make_room_for.new.self)) = left_at 0 spare gs c.make_room_for.new.self _ place (omega (arith, low.0, low.1, c.owner_of.ensures))
    (subst (λ (s : ShelfValue). HasLeftSpare 0 s.spare c.make_room_for.new.self.spare) c.index_mut.ensures.value c.make_room_for.ensures.kept) in
    subst (λ (b : BookValue). HasLeft 0 b.room (room_of spare (set gs place c.make_room_for.new.self))) c.self.view_is left
