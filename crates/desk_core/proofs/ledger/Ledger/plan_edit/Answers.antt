use Rattle.std.proofs.Common.{subst, sym}
use Rattle.std.proofs.lemmas.Result.{err_from_is_err_and}
use Rattle.accounts.specs.Planned.{HasUsed}
use Rattle.desk_core.specs.declared.plan.Changes.TheVariants.{Catalogue}
use Rattle.desk_core.specs.LedgerValue.{LedgerValue}
use Rattle.desk_core.specs.Planned.{IsPlanned, IsStop, stop_of}
use Rattle.desk_core.proofs.Besides.{edit_has_no_link, planned_by_book, stopped_by_book}
use Rattle.desk_core.proofs.ledger.Ledger.plan_edit.Goals as goal

pub returns-in_err-plan-clause-stopped : goal.returns-in_err-plan-clause-stopped
returns-in_err-plan-clause-stopped c =
    let p = err_from_is_err_and c.from_residual.result c.from_residual.ensures.1 in
    let ledger = c.self.inside in
    let why = c.in_err-plan.field-0.0 in
    let has = subst (λ (V : LedgerValue). HasUsed V.state c.args.call.now c.used_by.result) (sym c.self.view_is) c.used_by.ensures in
    let stopped = stopped_by_book ledger.settings ledger.moment ledger.edition c.used_by.result ledger.book.tables ledger.placements.rows c.args.call.now why has c.in_err-plan.ensures.stopped in
    rw (p.1, p.2) (subst (λ (V : LedgerValue). IsStop V.state c.args.call.now (stop_of why)) c.self.view_is stopped)

pub returns-clause-planned : goal.returns-clause-planned
returns-clause-planned c =
    let ledger = c.self.inside in
    let plan = c.in_ok-plan.plan in
    let has = subst (λ (V : LedgerValue). HasUsed V.state c.args.call.now c.used_by.result) (sym c.self.view_is) c.used_by.ensures in
    subst (λ (V : LedgerValue). IsPlanned V.state c.args.call.now (record { changes = Catalogue plan.changes; told = c.of.result })) c.self.view_is
    (planned_by_book ledger.settings ledger.moment ledger.edition c.used_by.result ledger.book.tables ledger.placements.rows c.args.call.now plan c.of.result c.of.ensures.replied c.of.ensures.there c.requires.edit has c.in_ok-plan.ensures.planned c.in_ok-plan.ensures.can_be_put)

pub of-requires : goal.of-requires
of-requires c =
    let ledger = c.self.inside in
    let has = subst (λ (V : LedgerValue). HasUsed V.state c.args.call.now c.used_by.result) (sym c.self.view_is) c.used_by.ensures in
    edit_has_no_link ledger.settings ledger.moment ledger.edition c.used_by.result ledger.book.tables ledger.placements.rows c.args.call.now c.in_ok-plan.plan c.requires.edit has c.in_ok-plan.ensures.planned
