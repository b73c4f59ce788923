use Rattle.std.proofs.Common.{◌≤◌, length, set, sym, ap, ◌∙◌, arith}
use Rattle.std.specs.List.{insert, position_or_len}
use Rattle.desk_types.specs.Keys.{is_same_key}
use Rattle.desk_keeper.proofs.Anywhere.{inserts_at, none_same, puts_at}
use Rattle.desk_keeper.proofs.slots.slot_among.Goals as goal

pub returns-then-place-rows : goal.returns-then-place-rows
returns-then-place-rows g c =
    let key = g.R.Keyed.key in
    let at = c.place_of_same-place.ensures in
    (omega arith, puts_at key c.args.row.now c.args.rows.now (omega (arith, at, c.if-place-rows.true)) ∙ ap (λ n. set c.args.rows.now n c.args.row.now) (sym at))

pub returns : goal.returns
returns g c =
    let key = g.R.Keyed.key in
    let same = c.place_of_same-place.ensures in
    let at = c.place_of_greater.ensures in
    let high : length c.args.rows.now ≤ position_or_len (λ r. is_same_key (key r) (key c.args.row.now)) c.args.rows.now = omega (arith, same, c.if-place-rows.false) in
    let put = inserts_at key c.args.row.now c.args.rows.now high in
    (omega (arith, at, put.0), none_same key c.args.row.now c.args.rows.now high, put.1 ∙ ap (λ n. insert c.args.rows.now n c.args.row.now) (sym at))
