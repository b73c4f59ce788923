use Rattle.std.proofs.Common.{◌≡◌, false, get_or, sym, ap, ◌∙◌}
use Rattle.std.proofs.lemmas.List.{get_or_default}
use Rattle.desk_keeper.proofs.SeenPatterns.{few_numbers, is_like, none_more, number_of, unlike}
use Rattle.desk_keeper.proofs.soundness.patterns.has_like.Goals as goal
use Rattle.desk_keeper.proofs.soundness.patterns.has_like.Goals.{else-other-wanted-via-then-other-wanted+else-is_like, else-other-wanted-via-else-other-wanted}

pub loop-i-preserved : goal.loop-i-preserved
loop-i-preserved g c =
    let group = g.R.PatternRow.group in
    let text = g.R.PatternRow.text in
    let own = c.args.own.now in
    let row = c.args.row.now in
    let i = c.loop-i.i in
    let low = few_numbers (number_of group text row) own c.args.fingerprints.now i c.requires c.loop-i-test.true in
    let other : is_like group text row (get_or own i row) ≡ false =
    elim c.else-other-wanted.branch [
      | else-other-wanted-via-then-other-wanted+else-is_like w ↦ ap (is_like group text row) (sym (w.index-own-i.is ∙ get_or_default own i w.index-own-i.result row low)) ∙ sym w.is_like.ensures ∙ w.if-is_like.false
      | else-other-wanted-via-else-other-wanted w ↦ unlike group text row c.fingerprint-wanted.result own c.args.fingerprints.now i row c.fingerprint-wanted.ensures.same c.requires low w.if-other-wanted.false
    ] in
    none_more group text row own i row low c.loop-i.invariant other
