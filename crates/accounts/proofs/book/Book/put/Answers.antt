use Rattle.std.proofs.Common.{ℕ, ◌-◌, ◌∙◌, List, set, sym, subst, ap, arith}
use Rattle.desk_types.specs.Tables.{put}
use Rattle.accounts.specs.AtHome.{IsAtHome}
use Rattle.accounts.specs.BookValue.{BookValue, HasLeft, HasLeftSpare, ShelfValue}
use Rattle.accounts.specs.Shelved.{AreShelvedInOrder, HasRowsOf, put_on}
use Rattle.accounts.proofs.Committing.{in_order_at, left_at, low_owner, put_at, room_of}
use Rattle.accounts.proofs.book.Book.put.Goals as goal

pub overflow_sub-place : goal.overflow_sub-place
overflow_sub-place c =
    let low = low_owner c.self.inside.shelves.items c.args.change c.self.invariant (subst (λ (b : BookValue). IsAtHome b.tables c.args.change) (sym c.self.view_is) c.requires.at_home) in
    omega (arith, low, c.owner_of.ensures)

pub put-requires-clause-in_order : goal.put-requires-clause-in_order
put-requires-clause-in_order c =
    subst AreShelvedInOrder (sym c.index_mut.ensures.value) (in_order_at c.self.inside.shelves.items _ (c.owner_of.result - 1) c.self.invariant (omega arith))

pub invariant_of-self : goal.invariant_of-self
invariant_of-self c =
    (put_at c.self.inside.shelves.items c.args.change c.put.new.self _ (c.owner_of.result - 1) c.self.invariant
    (subst (λ (b : BookValue). IsAtHome b.tables c.args.change) (sym c.self.view_is) c.requires.at_home) (omega (arith, c.owner_of.ensures)) (omega arith)
    (subst (λ (s : ShelfValue). HasRowsOf (put_on s c.args.change) c.put.new.self) c.index_mut.ensures.value c.put.ensures.put)).0

pub returns-then-place-count-clause-tables : goal.returns-then-place-count-clause-tables
returns-then-place-count-clause-tables c =
    (put_at c.self.inside.shelves.items c.args.change c.put.new.self _ (c.owner_of.result - 1) c.self.invariant
    (subst (λ (b : BookValue). IsAtHome b.tables c.args.change) (sym c.self.view_is) c.requires.at_home) (omega (arith, c.owner_of.ensures)) (omega arith)
    (subst (λ (s : ShelfValue). HasRowsOf (put_on s c.args.change) c.put.new.self) c.index_mut.ensures.value c.put.ensures.put)).1
    ∙ ap (λ (b : BookValue). put b.tables c.args.change) c.self.view_is

pub returns-then-place-count-clause-left : goal.returns-then-place-count-clause-left
returns-then-place-count-clause-left c =
    let gs : List ShelfValue = c.self.inside.shelves.items in
    let spare : ℕ = c.self.inside.shelves.cap - c.self.inside.shelves.len in
    let place : ℕ = c.owner_of.result - 1 in
    let left : HasLeft 1 (room_of spare gs) (room_of spare (set gs place c.put.new.self)) = left_at 1 spare gs c.put.new.self _ place (omega arith)
    (subst (λ (s : ShelfValue). HasLeftSpare 1 s.spare c.put.new.self.spare) c.index_mut.ensures.value c.put.ensures.left) in
    subst (λ (b : BookValue). HasLeft 1 b.room (room_of spare (set gs place c.put.new.self))) c.self.view_is left
