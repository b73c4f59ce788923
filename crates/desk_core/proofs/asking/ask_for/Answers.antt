use Rattle.std.proofs.Common.{sym, ◌∙◌}
use Rattle.desk_core.proofs.Asked.{asked_empty}
use Rattle.desk_core.proofs.asking.ask_for.Goals as goal

pub returns-then-is_empty : goal.returns-then-is_empty
returns-then-is_empty g c = asked_empty (g.K.Keeper.keeper c.args.keeper.now) c.args.list.now tt (sym c.is_empty.ensures ∙ c.if-is_empty.true)
