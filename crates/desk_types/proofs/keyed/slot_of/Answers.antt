use Rattle.std.proofs.Common.{◌≡◌, false, subst, sym, ◌∙◌, arith}
use Rattle.desk_types.specs.Keys.{is_less_key}
use Rattle.desk_types.proofs.Places.{IsBehind, behind_from, behind_last, place_from, put-inserts, put-replaces}
use Rattle.desk_types.proofs.keyed.slot_of.Goals as goal
use Rattle.desk_types.proofs.keyed.slot_of.Goals.{else-place-rows-via-then-place-rows+else-not-is_before, else-place-rows-via-else-place-rows}

pub returns-then-not-is_before : goal.returns-then-not-is_before
returns-then-not-is_before g c =
    let key = g.R.Keyed.key in
    let rows = c.args.rows.now in
    let place = c.place_of-place.result in
    let found = place_from key (key c.args.row.now) rows place c.place_of-place.ensures.place in (
      omega arith,
      put-replaces key c.args.row.now rows place c.index-rows-place.result found (omega arith)
          (subst (λ r. is_less_key (key c.args.row.now) (key r) ≡ false) c.index-rows-place.is (sym c.is_before.ensures ∙ c.if-not-is_before.true)),
    )

pub returns : goal.returns
returns g c =
    let key = g.R.Keyed.key in
    let rows = c.args.rows.now in
    let place = c.place_of-place.result in
    let found = place_from key (key c.args.row.now) rows place c.place_of-place.ensures.place in
    let behind : IsBehind key c.args.row.now rows place =
    elim c.else-place-rows.branch [
      | else-place-rows-via-then-place-rows+else-not-is_before w ↦ behind_from key c.args.row.now rows place w.index-rows-place.result w.index-rows-place.is (sym w.is_before.ensures ∙ w.if-not-is_before.false)
      | else-place-rows-via-else-place-rows w ↦ behind_last key c.args.row.now rows place (omega arith)
    ] in
    let put = put-inserts key c.args.row.now rows place c.requires (omega arith) found behind in
    (omega arith, put.0, put.1)
