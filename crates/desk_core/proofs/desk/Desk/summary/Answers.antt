use Rattle.std.proofs.Common.{◌≡◌, length, count_by, refl, ap, ◌∙◌}
use Rattle.desk_types.specs.Run.{run}
use Rattle.desk_types.specs.State.{State}
use Rattle.desk_types.specs.Summary.{is_faulted, summary}
use Rattle.desk_core.specs.DeskValue.{DeskValue, desk_of, first_state}
use Rattle.desk_core.specs.Searches.{is_answered_search}
use Rattle.desk_core.proofs.Summing.{summary_is}
use Rattle.desk_core.proofs.desk.Desk.summary.Goals as goal

pub returns : goal.returns
returns g c =
    let d = desk_of c.self.inside.journal c.self.inside.opening c.self.inside.base (g.K.Keeper.keeper c.self.inside.keeper) in
    let rows = c.as_slice-rows.result.now in
    let log = c.entries-log.ensures ∙ (λ i. (c.self-inside.view_is i).journal.entries) in
    let shown : rows ≡ (run (first_state d) d.log).tables.placements =
    c.as_slice-rows.ensures ∙ (λ i. (c.self-inside.view_is i).ledger.state.tables.placements) ∙ ap (λ (S : State). S.tables.placements) c.self.invariant.run_of_log in
    summary_is (first_state d) d.log rows _ shown (ap length log) (c.faulted.ensures ∙ ap (count_by (λ e. is_faulted e.outcome)) log) (c.searches.ensures ∙ ap (count_by is_answered_search) log) refl c.settled.ensures c.cents.ensures
    ∙ ap (λ (o : DeskValue). summary (first_state o) o.log) c.self.view_is
