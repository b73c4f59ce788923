use Rattle.std.proofs.Common.{ap, subst, sym, ◌∙◌}
use Rattle.std.specs.Prelude.{IsTrue, is_some}
use Rattle.desk_types.specs.State.{State}
use Rattle.desk_types.specs.Tables.{line_of}
use Rattle.desk_core.specs.DeskValue.{state}
use Rattle.desk_core.proofs.desk.Desk.line_there.Goals as goal

pub line_there-requires : goal.line_there-requires
line_there-requires g c =
    subst (λ (S : State). IsTrue (is_some (line_of S.tables c.args.account c.args.line)))
    (sym (c.self.invariant.run_of_log ∙ ap state c.self.view_is)) c.requires

pub returns : goal.returns
returns g c =
    ap (λ (S : State). line_of S.tables c.args.account c.args.line) (sym (c.self.invariant.run_of_log ∙ ap state c.self.view_is))
    ∙ c.line_there.ensures
