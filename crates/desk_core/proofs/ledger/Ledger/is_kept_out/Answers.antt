use Rattle.std.proofs.Common.{◌==◌, ◌&&◌, ap, ◌∙◌}
use Rattle.std.specs.List.{list_any}
use Rattle.desk_types.specs.declared.rows.Negative.{Negative}
use Rattle.desk_types.specs.Eligible.{is_kept_out, is_matched}
use Rattle.desk_core.specs.LedgerValue.{LedgerValue}
use Rattle.desk_core.specs.contracts.ledger.Ledger.{the_view}
use Rattle.desk_core.proofs.Owned.{kept_out_own}
use Rattle.desk_core.proofs.ledger.Ledger.is_kept_out.Goals as goal

pub returns : goal.returns
returns c =
    let line = c.args.line.now in
    let query = c.args.query.now in
    c.keep_out.ensures
    ∙ ap (list_any (λ (n : Negative). n.campaign == line.campaign && (n.live && is_matched n.pattern query))) c.negatives.ensures
    ∙ kept_out_own (the_view c.self.inside).state query line
    ∙ ap (λ (V : LedgerValue). is_kept_out V.state query line) c.self.view_is
