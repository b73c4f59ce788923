use Rattle.std.proofs.Common.{◌+◌, ◌==◌, filter, ap, ◌∙◌}
use Rattle.desk_types.specs.declared.rows.Line.{Line}
use Rattle.desk_core.specs.LedgerValue.{LedgerValue}
use Rattle.desk_core.proofs.Owned.{eligible_more, in_range_own}
use Rattle.desk_core.proofs.ledger.Ledger.eligible_ads.Goals as goal

pub push_eligible-requires : goal.push_eligible-requires
push_eligible-requires c =
    let account = c.loop-before.before + 1 in
    let own = c.lines.ensures ∙ ap (λ (V : LedgerValue). filter (λ (l : Line). l.account == account) V.state.tables.lines) c.self.view_is in
    in_range_own c.args.self.now.state account c.lines.result.now own c.requires

pub loop-before-preserved : goal.loop-before-preserved
loop-before-preserved c =
    let at = c.loop-before in
    let own = c.lines.ensures ∙ ap (λ (V : LedgerValue). filter (λ (l : Line). l.account == at.before + 1) V.state.tables.lines) c.self.view_is in
    eligible_more c.args.self.now.state c.args.query.now at.before at.ads.items c.push_eligible.new.ads.items c.lines.result.now own at.invariant c.in_ok-push_eligible.ensures
