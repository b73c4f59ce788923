use Rattle.std.proofs.Common.{sym, ◌∙◌}
use Rattle.desk_types.specs.Keys.{is_less_key}
use Rattle.desk_keeper.proofs.LastRows.{last_is}
use Rattle.desk_keeper.proofs.soundness.order.is_in_order.Goals as goal

pub returns-in-Some : goal.returns-in-Some
returns-in-Some g c =
    let key = g.R.Keyed.key in
    c.is_before.ensures ∙ sym (last_is (λ r. is_less_key (key r) (key c.args.row.now)) c.args.before.now c.in-Some.field-0-1.now c.in-Some.last.now c.in-Some.ensures.cases.0)
