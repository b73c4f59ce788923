use Rattle.std.proofs.Common.{◌∙◌, rules, tests}
use Rattle.std.proofs.lemmas.Iterator.{YieldsList-from_slice}
use Rattle.std.proofs.lemmas.Iterator.Search.{position_from_yields_List}
use Rattle.desk_types.specs.Keys.{is_same_key}
use Rattle.desk_keeper.proofs.Anywhere.{first_or_len}
use Rattle.desk_keeper.proofs.slots.place_of_same.Goals as goal

pub returns : goal.returns
returns g c =
    let key = g.R.Keyed.key in
    let row = c.args.row.now in
    c.unwrap_or.ensures ∙ first_or_len (λ r. is_same_key (key r) (key row)) c.args.rows.now c.position.result
    (position_from_yields_List (λ r. is_same_key (key r) (key row)) _ _ c.position.result c.position.ensures.ran (YieldsList-from_slice c.args.rows.now cc) (λ x b q k. search (rules, tests)))
