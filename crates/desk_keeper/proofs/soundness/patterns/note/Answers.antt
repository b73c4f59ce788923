use Rattle.std.proofs.Common.{◌≡◌, ◌++◌, ◌∷◌, [], ◌==◌, filter, map, subst, sym, ap, ◌∙◌}
use Rattle.desk_keeper.specs.OwnRows.{AreSeen}
use Rattle.desk_keeper.proofs.SeenPatterns.{no_own, none_seen, number_of, seen_more, some_own, some_seen}
use Rattle.desk_keeper.proofs.soundness.patterns.note.Goals as goal
use Rattle.desk_keeper.proofs.soundness.patterns.note.Goals.{then-is_empty, else-is_empty}

pub returns : goal.returns
returns g c =
    let owner = g.R.OwnRow.owner in
    let number = number_of g.R.PatternRow.group g.R.PatternRow.text c.args.row.now in
    let before = c.args.before.now in
    let row = c.args.row.now in
    let here : c.if-is_empty.seen.items ≡ map number (filter (λ r. owner r == owner row) before) =
    elim c.if-is_empty.branch [
      | then-is_empty w ↦
          let cleared : c.if-is_empty.seen.items ≡ [] = cc (w.seen-is, w.clear.ensures.items) in
          cleared ∙ none_seen owner number c.account.result row before c.own_rows.result.now c.own_rows.ensures.own c.account.ensures (no_own _ (sym c.is_empty.ensures ∙ w.if-is_empty.true))
      | else-is_empty w ↦
          let kept : c.if-is_empty.seen.items ≡ c.args.seen.now.items = cc (w.seen-is) in
          kept ∙ some_seen owner number c.account.result row before c.args.seen.now.items c.requires.seen c.account.ensures (c.own_rows.ensures.last (some_own _ (sym c.is_empty.ensures ∙ w.if-is_empty.false)))
    ] in
    subst (AreSeen owner number (before ++ row ∷ [])) (sym (c.in_ok-push.ensures.items ∙ ap (λ n. c.if-is_empty.seen.items ++ n ∷ []) c.fingerprint.ensures.value)) (seen_more owner number before row c.if-is_empty.seen.items here)
