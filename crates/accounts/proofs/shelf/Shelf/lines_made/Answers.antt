use Rattle.std.proofs.Common.{◌≡◌, ◌+◌, ◌∷◌, List, drop, sym, ap, subst, ◌∙◌, arith}
use Rattle.std.proofs.lemmas.List.{drop_more}
use Rattle.std.proofs.lemmas.Result.{err_from_is_err_and}
use Rattle.desk_types.specs.declared.call.ImportRow.{ImportRow}
use Rattle.desk_types.specs.declared.rows.Line.{Line}
use Rattle.accounts.proofs.Imports.{AreMade, all_stop, made_more}
use Rattle.accounts.proofs.shelf.Shelf.lines_made.Goals as goal

pub returns-in_err-line-clause-stopped : goal.returns-in_err-line-clause-stopped
returns-in_err-line-clause-stopped c =
    let at = c.loop-row in
    let row = c.row-item.result in
    let left = drop (at.row-index + 1) c.args.rows.now in
    let next : drop at.row-index c.args.rows.now ≡ row ∷ left =
    drop_more c.args.rows.now at.row-index row c.loop-row-test.true ∙ ap (λ (r : ImportRow). r ∷ left) (sym c.row-item.is) in
    let p = err_from_is_err_and c.from_residual.result c.from_residual.ensures.1 in
    rw (p.1, p.2) (λ T h.
    all_stop T c.args.account c.args.self.now c.args.rows.now at.made.rows at.number row left c.in_err-line.field-0.0
    (subst (AreMade T c.args.account c.args.self.now c.args.rows.now at.made.rows at.number) next (at.invariant.1 T h))
    (λ U behind. c.in_err-line.ensures.stopped U behind))

pub loop-row-preserved : goal.loop-row-preserved
loop-row-preserved c =
    let at = c.loop-row in
    let row = c.row-item.result in
    let left = drop (at.row-index + 1) c.args.rows.now in
    let next : drop at.row-index c.args.rows.now ≡ row ∷ left =
    drop_more c.args.rows.now at.row-index row c.loop-row-test.true ∙ ap (λ (r : ImportRow). r ∷ left) (sym c.row-item.is) in (
      omega (arith, at.invariant.0),
      λ T h.
          subst (λ (made : List Line). AreMade T c.args.account c.args.self.now c.args.rows.now made (at.number + 1) left) (sym c.in_ok-push.ensures)
          (made_more T c.args.account c.args.self.now c.args.rows.now at.made.rows at.number row left c.in_ok-line.line
          (subst (AreMade T c.args.account c.args.self.now c.args.rows.now at.made.rows at.number) next (at.invariant.1 T h))
          (λ U behind. c.in_ok-line.ensures.line U behind)
          (λ U behind. c.in_ok-line.ensures.passed U behind)),
    )
