use Rattle.std.proofs.Common.{◌≡◌, ◌∙◌, Ok, refl, sym, ap, subst}
use Rattle.std.proofs.lemmas.Result.{err_from_is_err_and}
use Rattle.script_api.specs.declared.line.ScriptLine.TheVariants.{Timed, Bad}
use Rattle.script_api.specs.declared.ending.ScriptEnd.TheVariants as end
use Rattle.script_api.specs.Script.{script_line}
use Rattle.script_api.specs.ScriptRun.{script_at}
use Rattle.script_api.specs.ScriptTurn.{midway, Goes}
use Rattle.script_api.specs.ScriptValue.{form_end}
use Rattle.script_api.proofs.Turning.{text-ends, text-unread, text-answered, text-broken}
use Rattle.script_api.proofs.serving.LineServing.serve_text.Goals as goal

pub returns-in_err-put_answer_line-in-Ok-Timed-clause-turn : goal.returns-in_err-put_answer_line-in-Ok-Timed-clause-turn
returns-in_err-put_answer_line-in-Ok-Timed-clause-turn g c = λ start source at_line.
    let is : Timed c.in-Ok-Timed.moment c.in-Ok-Timed.call ≡ script_line c.args.self.now.lines.text = rw c.in-Ok-Timed.field-0-is at c.in-Ok-Timed.ensures ∙ ap script_line c.text.ensures in
    let p = err_from_is_err_and c.from_residual.result c.from_residual.ensures.1 in
    rw p.1
    (text-broken start _ _ source _ _ c.args.self.now.lines _ _ at_line c.in-Ok-Timed.moment c.in-Ok-Timed.call (sym is) c.call-answer.result c.call-answer.ensures.serves c.in_err-put_answer_line-in-Ok-Timed.field-0.0 c.in_err-put_answer_line-in-Ok-Timed.ensures.puts)

pub returns-in_ok-put_answer_line-in-Ok-Timed-clause-turn : goal.returns-in_ok-put_answer_line-in-Ok-Timed-clause-turn
returns-in_ok-put_answer_line-in-Ok-Timed-clause-turn g c = λ start source at_line.
    let is : Timed c.in-Ok-Timed.moment c.in-Ok-Timed.call ≡ script_line c.args.self.now.lines.text = rw c.in-Ok-Timed.field-0-is at c.in-Ok-Timed.ensures ∙ ap script_line c.text.ensures in
    subst (λ r. Goes start (midway (script_at (g.V.Service.service c.call-answer.new.self) source (g.T.Sink.sink c.put_answer_line.new.output)) c.args.self.now.lines c.put_answer_line.new.out) (Ok r)) (sym c.end_of_last.ensures)
    (text-answered start _ _ source _ _ c.args.self.now.lines _ _ at_line c.in-Ok-Timed.moment c.in-Ok-Timed.call (sym is) c.call-answer.result c.call-answer.ensures.serves c.in_ok-put_answer_line-in-Ok-Timed.ensures.puts)

pub returns-in-Ok-Bad-clause-turn : goal.returns-in-Ok-Bad-clause-turn
returns-in-Ok-Bad-clause-turn g c = λ start source at_line.
    let is : Bad ≡ script_line c.args.self.now.lines.text = rw c.in-Ok-Bad.field-0-is at c.in-Ok-Bad.ensures ∙ ap script_line c.text.ensures in
    rw c.number.ensures
    (text-ends start _ (g.V.Service.service c.args.service.now) source _ (g.T.Sink.sink c.args.output.now) c.args.self.now.lines c.args.self.now.answers c.args.self.now.answers at_line (end.BadLine c.args.self.now.lines.count)
    (sym (ap (form_end c.args.self.now.lines.count) is)) refl (λ other. absurd (cc)))

pub returns-in-Err-clause-turn : goal.returns-in-Err-clause-turn
returns-in-Err-clause-turn g c = λ start source at_line.
    text-unread start _ (g.V.Service.service c.args.service.now) source _ (g.T.Sink.sink c.args.output.now) c.args.self.now.lines c.args.self.now.answers c.args.self.now.answers at_line
