use Rattle.std.proofs.Common.{◌≡◌, [], Ok, option_map, unwrap_or, subst, sym, ap, ◌∙◌}
use Rattle.desk_types.specs.declared.reply.Reply.TheVariants.{Went}
use Rattle.desk_types.specs.declared.rows.Line.{Line}
use Rattle.desk_types.specs.Serving.{Serves}
use Rattle.desk_core.specs.DeskValue.{service_of, state}
use Rattle.desk_core.specs.SoloValue.{SoloValue}
use Rattle.desk_core.specs.Told.{replied, result_told}
use Rattle.desk_core.proofs.Desks.{serves_from}
use Rattle.desk_core.proofs.solo.SoloService.call.Goals as goal
use Rattle.desk_core.proofs.solo.SoloService.call.Goals.{in-Ok-Link, in-Ok, in-Err}

pub returns-clause-serves : goal.returns-clause-serves
returns-clause-serves g c =
    let T = (state c.tell.new.self).tables in
    let told : result_told T c.tell.result ≡ c.match-tell.result = elim c.match-tell.branch [
      | in-Ok-Link w ↦
          ap (result_told T) w.in-Ok-Link.is ∙ ap (λ t. Ok (replied T t)) w.in-Ok-Link.field-0-is ∙ ap (λ found. Ok (Went (unwrap_or (option_map (λ (l : Line). l.link) found) []))) w.line_there.ensures ∙ ap (λ link. Ok (Went link)) (sym w.copy.ensures) ∙ sym w.result-is
      | in-Ok w ↦ ap (result_told T) w.in-Ok.is ∙ ap Ok (sym w.reply.ensures) ∙ sym w.result-is
      | in-Err w ↦ ap (result_told T) w.in-Err.is ∙ sym w.result-is
    ] in
    subst (λ (s : SoloValue). Serves (service_of s.caller s.desk) c.args.moment c.args.call c.match-tell.result (service_of c.self.inside.caller c.tell.new.self)) c.self.view_is
    (serves_from c.self.inside.caller c.args.moment c.args.call c.self.inside.desk c.tell.new.self (result_told T c.tell.result) c.match-tell.result c.tell.ensures.answers c.tell.ensures.sure c.tell.ensures.stays told)
