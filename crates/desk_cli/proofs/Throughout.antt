-- Throughout a desk's history the budgets hold and the pages are priced.
use Rattle.std.proofs.Common.{◌≡◌, List, sym, subst}
use Rattle.desk_types.specs.declared.call.Call.{Call}
use Rattle.desk_types.specs.declared.entry.Entry.{Entry}
use Rattle.desk_types.specs.declared.reply.Reply.TheVariants.{Page}
use Rattle.desk_types.specs.LedgerLaws.{IsPageAnswered}
use Rattle.desk_types.specs.Run.{run}
use Rattle.desk_types.specs.State.{State}
use Rattle.desk_types.specs.Step.{at_moment, step}
use Rattle.desk_types.proofs.Histories.{page_law, sound_run}
use Rattle.desk_types.proofs.Soundness.{sound_opened, stable}
use Rattle.desk_types.proofs.Stable.{IsStable}
use Rattle.desk_core.specs.DeskValue.{DeskValue, IsRunOfLedger, first_state}
use Rattle.desk_cli.specs.Throughout.{HoldsThroughout, IsPricedPage}

-- what holds where a desk is opened
first_stable : (desk : DeskValue) → IsRunOfLedger desk → IsStable (first_state desk)
first_stable desk h = stable (first_state desk) (sound_opened desk.settings desk.opening h.sound)

priced_page : (desk : DeskValue) (before : List Entry) (e : Entry) → IsRunOfLedger desk → IsPricedPage (run (first_state desk) before) e
priced_page desk before e h text places spots is =
    let S : State = run (first_state desk) before in
    let P = λ (call : Call). (step S e.moment call).reply ≡ Page spots → IsPageAnswered (at_moment S e.moment) text places spots (step S e.moment call).state in
    subst P (sym is) (page_law (first_state desk) before e.moment text places spots (first_stable desk h))

pub holds_throughout : (desk : DeskValue) → IsRunOfLedger desk → HoldsThroughout desk
holds_throughout desk h = record {
  budgets = λ before after is. (sound_run (first_state desk) before (first_stable desk h)).within_budgets;
  pages = λ before after e is. priced_page desk before e h;
}
