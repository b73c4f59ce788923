use Rattle.std.proofs.Common.{◌==◌, filter, map, sym, ap, ◌∙◌}
use Rattle.desk_keeper.proofs.SeenPatterns.{is_like, no_own, none_repeated, number_of, repeated, some_own, some_seen}
use Rattle.desk_keeper.proofs.soundness.patterns.is_repeated.Goals as goal

pub returns : goal.returns
returns g c =
    let owner = g.R.OwnRow.owner in
    let before = c.args.before.now in
    c.has_like.ensures ∙ repeated owner g.R.PatternRow.group g.R.PatternRow.text c.args.row.now before c.own_rows-own.result.now
    (c.own_rows-own.ensures.own ∙ ap (λ n. filter (λ r. owner r == n) before) c.account.ensures)

pub returns-then-is_empty : goal.returns-then-is_empty
returns-then-is_empty g c =
    let owner = g.R.OwnRow.owner in
    let before = c.args.before.now in
    none_repeated (is_like g.R.PatternRow.group g.R.PatternRow.text c.args.row.now) c.own_rows-own.result.now (no_own _ (sym c.is_empty.ensures ∙ c.if-is_empty.true))
    ∙ repeated owner g.R.PatternRow.group g.R.PatternRow.text c.args.row.now before c.own_rows-own.result.now
    (c.own_rows-own.ensures.own ∙ ap (λ n. filter (λ r. owner r == n) before) c.account.ensures)

pub has_like-requires : goal.has_like-requires
has_like-requires g c =
    let owner = g.R.OwnRow.owner in
    let before = c.args.before.now in
    let row = c.args.row.now in
    let number = number_of g.R.PatternRow.group g.R.PatternRow.text row in
    some_seen owner number c.account.result row before c.args.seen.now c.requires.seen c.account.ensures (c.own_rows-own.ensures.last (some_own _ (sym c.is_empty.ensures ∙ c.if-is_empty.false)))
    ∙ ap (map number) (sym (c.own_rows-own.ensures.own ∙ ap (λ n. filter (λ r. owner r == n) before) c.account.ensures))
