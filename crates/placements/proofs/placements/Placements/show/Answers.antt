use Rattle.std.proofs.Common.{◌≡◌, ℕ, [], ◌∷◌, ◌++◌, eqb, unwrap_or, refl, sym, ap, subst, ◌∙◌}
use Rattle.std.specs.HashMap.{get}
use Rattle.desk_types.specs.declared.rows.Placement.{Placement}
use Rattle.desk_types.specs.Keys.{placement_key}
use Rattle.desk_types.specs.Tables.{put_row}
use Rattle.desk_types.proofs.Numbering.{next_last}
use Rattle.placements.specs.Linked.{AreKept}
use Rattle.placements.specs.PlacementsValue.{IsNext, PlacementsValue}
use Rattle.placements.proofs.Keeping.{kept_push, unwrap_cond}
use Rattle.placements.proofs.placements.Placements.show.Goals as goal

pub invariant_of-self : goal.invariant_of-self
invariant_of-self c =
    let row = c.args.row in
    let last = λ (account : ℕ). unwrap_or (get eqb c.self.inside.last account) 0 in
    let left = λ (account : ℕ). unwrap_or (get eqb c.insert.new.self account) 0 in
    let next = subst (λ (V : PlacementsValue). IsNext V.rows row) (sym c.self.view_is) c.requires.next in
    let number : c.unwrap_or.result ≡ last row.account = c.unwrap_or.ensures ∙ ap (λ o. unwrap_or o 0) c.in-Ok.ensures.old in
    let kept = kept_push c.self.inside.rows.items c.self.inside.before.items last left row c.unwrap_or.result c.self.invariant next number
    (λ account. ap (λ o. unwrap_or o 0) (c.in-Ok.ensures.updates.0 account) ∙ unwrap_cond (eqb row.account account) row.number (get eqb c.self.inside.last account)) in
    subst (λ rows. AreKept rows c.push.new.self.items left) (sym c.in-Ok-push-2.ensures.items)
    (subst (λ before. AreKept (c.self.inside.rows.items ++ row ∷ []) before left) (sym c.in-Ok-push.ensures.items) kept)

pub returns-clause-put : goal.returns-clause-put
returns-clause-put c =
    let row = c.args.row in
    let next = subst (λ (V : PlacementsValue). IsNext V.rows row) (sym c.self.view_is) c.requires.next in
    c.in-Ok-push-2.ensures.items
    ∙ sym (next_last placement_key (λ (p : Placement). p.number) row c.self.inside.rows.items (λ p. refl) c.self.invariant.in_turn.numbers next.number)
    ∙ ap (λ (V : PlacementsValue). put_row placement_key row V.rows) c.self.view_is
