use Rattle.std.proofs.Common.{◌≡◌, ◌-◌, ◌<◌, ◌≤◌, None, eqb, length, map, unwrap_or, sym, ap, subst, ◌∙◌, arith}
use Rattle.std.specs.HashMap.{get}
use Rattle.desk_types.specs.declared.rows.Placement.{Placement}
use Rattle.desk_types.specs.Sound.{RunFromOne}
use Rattle.placements.specs.Clicks.{fated, found}
use Rattle.placements.specs.PlacementsValue.{PlacementsValue}
use Rattle.placements.proofs.Keeping.{kept_fated}
use Rattle.placements.proofs.Numbers.{fated_there, none_there}
use Rattle.placements.proofs.placements.Placements.put_fate.Goals as goal
use Rattle.placements.proofs.placements.Placements.put_fate.Goals.{then-number-eq0-via-then-number-eq0, then-number-eq0-via-else-number-eq0+then-number-len}

pub returns-then-number-eq0-clause-rows : goal.returns-then-number-eq0-clause-rows
returns-then-number-eq0-clause-rows c =
    let rows = c.args.self.now.rows in
    let number = c.args.number in
    let numbers = subst (λ (V : PlacementsValue). RunFromOne (map (λ (p : Placement). p.number) V.rows)) c.self.view_is c.self.invariant.in_turn.numbers in
    let count : length c.self.inside.rows.items ≡ length rows = ap (λ (V : PlacementsValue). length V.rows) c.self.view_is in
    let none : found number rows ≡ None =
    elim c.then-number-eq0.branch [
      | then-number-eq0-via-then-number-eq0 w ↦ none_there rows number numbers (λ some. absurd (omega (arith, some, w.if-number-eq0.true)))
      | then-number-eq0-via-else-number-eq0+then-number-len w ↦ none_there rows number numbers (λ some. omega (arith, w.if-number-len.true, w.len.ensures, c.self.inside.rows.ok.0, count))
    ] in
    sym (ap (λ o. fated c.args.fate o rows) none)

pub invariant_of-self : goal.invariant_of-self
invariant_of-self c =
    let low : c.args.number - 1 < length c.self.inside.rows.items = omega (arith, c.len.ensures, c.self.inside.rows.ok.0, c.if-number-len.false, c.if-number-eq0.false) in
    kept_fated c.self.inside.rows.items c.self.inside.before.items (λ account. unwrap_or (get eqb c.self.inside.last account) 0) (c.args.number - 1) c.index_mut.result.now c.args.fate low c.index_mut.ensures.value
    c.self.invariant

pub returns-clause-rows : goal.returns-clause-rows
returns-clause-rows c =
    let rows = c.self.inside.rows.items in
    let number = c.args.number in
    let some : 0 < number = omega (arith, c.if-number-eq0.false) in
    let within : number ≤ length rows = omega (arith, c.len.ensures, c.self.inside.rows.ok.0, c.if-number-len.false) in
    sym (fated_there rows number c.index_mut.result.now c.args.fate c.self.invariant.in_turn.numbers some within c.index_mut.ensures.value)
    ∙ ap (λ (V : PlacementsValue). fated c.args.fate (found number V.rows) V.rows) c.self.view_is
