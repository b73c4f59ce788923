use Rattle.std.proofs.Common.{sym, ◌∙◌}
use Rattle.std.proofs.lemmas.Result.{err_from_is_err_and}
use Rattle.http_api.proofs.SessionAnswers.{refuse-answered, refuse-broken}
use Rattle.http_api.proofs.serving.MessageServing.refuse.Goals as goal

pub returns-in_err-write-clause-turn : goal.returns-in_err-write-clause-turn
returns-in_err-write-clause-turn g c = λ host_key start service moments messages head goes is_message is_form.
    let p = err_from_is_err_and c.from_residual.result c.from_residual.ensures.1 in
    let same = sym (g.met.L.Link.source_side_is c.write.new.sink) ∙ c.write.ensures.source_side ∙ g.met.L.Link.source_side_is c.args.link.now in
    rw p.1
    (refuse-broken host_key start service service (g.L.Source.source c.args.link.now) (g.L.Source.source c.write.new.sink) (g.L.Sink.sink c.args.link.now) (g.L.Sink.sink c.write.new.sink) moments moments
    c.args.self.now.reader.last c.args.self.now.reader.held c.write.new.self messages same head c.args.bodiless goes is_message is_form c.in_err-write.field-0.0 c.in_err-write.ensures.written)

pub returns-clause-turn : goal.returns-clause-turn
returns-clause-turn g c = λ host_key start service moments messages head goes is_message is_form.
    let same = sym (g.met.L.Link.source_side_is c.write.new.sink) ∙ c.write.ensures.source_side ∙ g.met.L.Link.source_side_is c.args.link.now in
    refuse-answered host_key start service service (g.L.Source.source c.args.link.now) (g.L.Source.source c.write.new.sink) (g.L.Sink.sink c.args.link.now) (g.L.Sink.sink c.write.new.sink) moments moments
    c.args.self.now.reader.last c.args.self.now.reader.held c.write.new.self messages same head c.args.bodiless goes is_message is_form c.in_ok-write.ensures.written
