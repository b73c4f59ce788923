use Rattle.std.proofs.Common.{sym, ◌∙◌}
use Rattle.std.proofs.lemmas.Result.{err_from_is_err_and}
use Rattle.http_api.proofs.SessionAnswers.{whole-answered, whole-broken}
use Rattle.http_api.proofs.serving.MessageServing.serve_whole.Goals as goal

pub returns-in_err-write-clause-turn : goal.returns-in_err-write-clause-turn
returns-in_err-write-clause-turn g c = λ start goes is_message.
    let p = err_from_is_err_and c.from_residual.result c.from_residual.ensures.1 in
    let same = sym (g.met.L.Link.source_side_is c.write.new.sink) ∙ c.write.ensures.source_side ∙ g.met.L.Link.source_side_is c.args.link.now in
    rw p.1
    (whole-broken c.args.host_key.now start (g.V.Service.service c.args.service.now) (g.V.Service.service c.answer_of-answer.new.service) (g.L.Source.source c.args.link.now) (g.L.Source.source c.write.new.sink)
    (g.L.Sink.sink c.args.link.now) (g.L.Sink.sink c.write.new.sink) (g.C.Clock.moments c.args.clock.now) (g.C.Clock.moments c.answer_of-answer.new.clock)
    c.args.self.now.reader.last c.args.self.now.reader.held c.write.new.self c.args.messages same c.args.self.now.reader.head c.head-head.result c.args.self.now.reader.body c.body.result.now goes is_message
    c.head-head.ensures c.body.ensures c.judge-verdict.result c.answer_of-answer.result c.judge-verdict.ensures c.answer_of-answer.ensures.answered c.form_of-form.result c.asks_to_close-closes.result
    c.form_of-form.ensures c.asks_to_close-closes.ensures c.in_err-write.field-0.0 c.in_err-write.ensures.written)

pub returns-clause-turn : goal.returns-clause-turn
returns-clause-turn g c = λ start goes is_message.
    let same = sym (g.met.L.Link.source_side_is c.write.new.sink) ∙ c.write.ensures.source_side ∙ g.met.L.Link.source_side_is c.args.link.now in
    rw c.end_behind.ensures
    (whole-answered c.args.host_key.now start (g.V.Service.service c.args.service.now) (g.V.Service.service c.answer_of-answer.new.service) (g.L.Source.source c.args.link.now) (g.L.Source.source c.write.new.sink)
    (g.L.Sink.sink c.args.link.now) (g.L.Sink.sink c.write.new.sink) (g.C.Clock.moments c.args.clock.now) (g.C.Clock.moments c.answer_of-answer.new.clock)
    c.args.self.now.reader.last c.args.self.now.reader.held c.write.new.self c.args.messages same c.args.self.now.reader.head c.head-head.result c.args.self.now.reader.body c.body.result.now goes is_message
    c.head-head.ensures c.body.ensures c.judge-verdict.result c.answer_of-answer.result c.judge-verdict.ensures c.answer_of-answer.ensures.answered c.form_of-form.result c.asks_to_close-closes.result
    c.form_of-form.ensures c.asks_to_close-closes.ensures c.in_ok-write.ensures.written)
