use Rattle.std.proofs.Common.{◌≡◌, sym, subst}
use Rattle.std.specs.Prelude.{All, Any}
use Rattle.desk_types.specs.declared.entry.Entry.{Entry}
use Rattle.desk_core.specs.DeskValue.{DeskValue}
use Rattle.turn_lock.specs.Lists.{IsPrefix}
use Rattle.desk_hall.specs.Callers.{HallPass}
use Rattle.desk_hall.proofs.hall.Hall.close.Goals as goal

pub returns-clause-seen : goal.returns-clause-seen
returns-clause-seen g c = subst (λ (d : DeskValue). All (λ (p : HallPass). IsPrefix p.seen d.log) c.args.passes.items) (sym c.desk.view_is) c.close.ensures.seen

pub returns-clause-others : goal.returns-clause-others
returns-clause-others g c = subst (λ (d : DeskValue). All (λ (e : Entry). Any (λ (p : HallPass). p.number ≡ e.caller) c.args.passes.items) d.log) (sym c.desk.view_is) c.close.ensures.others
