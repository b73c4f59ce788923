use Rattle.std.proofs.Common.{◌≡◌, ℕ, ◌+◌, ◌-◌, ◌∙◌, List, length, sym, subst, ap, arith}
use Rattle.desk_types.specs.Tables.{put}
use Rattle.accounts.specs.BookValue.{BookValue, HasLeft, ShelfValue, tables_of}
use Rattle.accounts.specs.Shelved.{AreShelves}
use Rattle.std.proofs.lemmas.List.{length-map}
use Rattle.desk_types.specs.declared.tables.Change.TheVariants.{PutAccount}
use Rattle.accounts.proofs.Committing.{new_shelf, push_left, push_tables, room_of}
use Rattle.accounts.proofs.Shelves.{shelf_push}
use Rattle.accounts.proofs.book.Book.push.Goals as goal

pub invariant_of-self : goal.invariant_of-self
invariant_of-self c =
    let gs : List ShelfValue = c.self.inside.shelves.items in
    let e = c.new-shelf.ensures in
    let count : length c.args.self.now.tables.accounts ≡ length gs = ap (λ (b : BookValue). length b.tables.accounts) (sym c.self.view_is) ∙ length-map gs (λ (s : ShelfValue). s.account) in
    subst (AreShelves 1) (sym c.in-Ok.ensures.items) (shelf_push 1 gs c.new-shelf.result c.self.invariant
    (new_shelf (1 + length gs) c.new-shelf.result c.args.row (omega (arith, c.requires.next, count)) e.0 e.1 e.2 e.3 e.4 e.5))

pub returns-clause-tables : goal.returns-clause-tables
returns-clause-tables c =
    let gs : List ShelfValue = c.self.inside.shelves.items in
    let e = c.new-shelf.ensures in
    let count : length c.args.self.now.tables.accounts ≡ length gs = ap (λ (b : BookValue). length b.tables.accounts) (sym c.self.view_is) ∙ length-map gs (λ (s : ShelfValue). s.account) in
    ap tables_of c.in-Ok.ensures.items
    ∙ push_tables gs c.new-shelf.result c.args.row c.self.invariant (omega (arith, c.requires.next, count)) e.0 e.1 e.2 e.3 e.4 e.5
    ∙ ap (λ (b : BookValue). put b.tables (PutAccount c.args.row)) c.self.view_is

pub returns-clause-left : goal.returns-clause-left
returns-clause-left c =
    let gs : List ShelfValue = c.self.inside.shelves.items in
    let before : ℕ = c.self.inside.shelves.cap - c.self.inside.shelves.len in
    let after : ℕ = c.push.new.self.cap - c.push.new.self.len in
    let left = push_left before after gs c.new-shelf.result (omega (arith, c.in-Ok.ensures.len, c.in-Ok.ensures.capacity)) in
    subst (λ (b : BookValue). HasLeft 1 b.room (room_of after c.push.new.self.items)) c.self.view_is
    (subst (λ (hs : List ShelfValue). HasLeft 1 (room_of before gs) (room_of after hs)) (sym c.in-Ok.ensures.items) left)
