use Rattle.std.proofs.Common.{ℕ, List, Ok, sym, ap, subst, ◌∙◌}
use Rattle.std.proofs.lemmas.Result.{err_from_is_err_and}
use Rattle.http_api.specs.ReaderValue.{ReaderValue}
use Rattle.http_api.specs.SessionRun.{session_at}
use Rattle.http_api.specs.SessionTurn.{GoesBehind}
use Rattle.http_api.proofs.SessionMoves.{goes-read, turn-ended, turn-cut_short, turn-read_fault}
use Rattle.http_api.proofs.serving.MessageServing.serve_next.Goals as goal

pub returns-in_err-end-in-Whole-clause-turn : goal.returns-in_err-end-in-Whole-clause-turn
returns-in_err-end-in-Whole-clause-turn g c = λ start goes.
    let same = sym (g.met.L.Link.sink_side_is c.next.new.source) ∙ c.next.ensures.sink_side ∙ g.met.L.Link.sink_side_is c.args.link.now in
    let comes = c.in-Whole.ensures.comes in
    let front = goes-read c.args.host_key.now start (g.V.Service.service c.args.service.now) (g.L.Source.source c.args.link.now) (g.L.Source.source c.next.new.source) (g.L.Sink.sink c.args.link.now) (g.L.Sink.sink c.next.new.source)
    (g.C.Clock.moments c.args.clock.now) c.args.self.now.reader.held comes.read c.args.messages goes same comes.taken c.next.ensures.faults c.next.new.self.last c.next.new.self.held comes.next.0 in
    let p = err_from_is_err_and c.from_residual.result c.from_residual.ensures.1 in
    rw p.1 (c.in_err-end-in-Whole.ensures.turn start front comes.next.1)

pub returns-in_err-end-in-Faulty-clause-turn : goal.returns-in_err-end-in-Faulty-clause-turn
returns-in_err-end-in-Faulty-clause-turn g c = λ start goes.
    let same = sym (g.met.L.Link.sink_side_is c.next.new.source) ∙ c.next.ensures.sink_side ∙ g.met.L.Link.sink_side_is c.args.link.now in
    let comes = c.in-Faulty.ensures.comes in
    let front = goes-read c.args.host_key.now start (g.V.Service.service c.args.service.now) (g.L.Source.source c.args.link.now) (g.L.Source.source c.next.new.source) (g.L.Sink.sink c.args.link.now) (g.L.Sink.sink c.next.new.source)
    (g.C.Clock.moments c.args.clock.now) c.args.self.now.reader.held comes.read c.args.messages goes same comes.taken c.next.ensures.faults c.next.new.self.last c.next.new.self.held comes.next.0 in
    let p = err_from_is_err_and c.from_residual-in_err-end-in-Faulty.result c.from_residual-in_err-end-in-Faulty.ensures.1 in
    rw p.1 (c.in_err-end-in-Faulty.ensures.turn c.args.host_key.now start (g.V.Service.service c.args.service.now) (g.C.Clock.moments c.args.clock.now) c.args.messages comes.next.1 front comes.next.2 comes.next.3)

pub returns-in_ok-end-in-Whole-clause-turn : goal.returns-in_ok-end-in-Whole-clause-turn
returns-in_ok-end-in-Whole-clause-turn g c = λ start goes.
    let same = sym (g.met.L.Link.sink_side_is c.next.new.source) ∙ c.next.ensures.sink_side ∙ g.met.L.Link.sink_side_is c.args.link.now in
    let comes = c.in-Whole.ensures.comes in
    let front = goes-read c.args.host_key.now start (g.V.Service.service c.args.service.now) (g.L.Source.source c.args.link.now) (g.L.Source.source c.next.new.source) (g.L.Sink.sink c.args.link.now) (g.L.Sink.sink c.next.new.source)
    (g.C.Clock.moments c.args.clock.now) c.args.self.now.reader.held comes.read c.args.messages goes same comes.taken c.next.ensures.faults c.next.new.self.last c.next.new.self.held comes.next.0 in
    subst (λ (held : List ℕ). GoesBehind c.args.host_key.now start (session_at (g.V.Service.service c.serve_whole.new.service) (g.L.Source.source c.serve_whole.new.link) (g.L.Sink.sink c.serve_whole.new.link) (g.C.Clock.moments c.serve_whole.new.clock)) held c.args.messages (Ok c.in_ok-end-in-Whole.end))
    (ap (λ (reader : ReaderValue). reader.held) (sym c.in_ok-end-in-Whole.ensures.reader))
    (c.in_ok-end-in-Whole.ensures.turn start front comes.next.1)

pub returns-in_ok-end-in-Faulty-clause-turn : goal.returns-in_ok-end-in-Faulty-clause-turn
returns-in_ok-end-in-Faulty-clause-turn g c = λ start goes.
    let same = sym (g.met.L.Link.sink_side_is c.next.new.source) ∙ c.next.ensures.sink_side ∙ g.met.L.Link.sink_side_is c.args.link.now in
    let comes = c.in-Faulty.ensures.comes in
    let front = goes-read c.args.host_key.now start (g.V.Service.service c.args.service.now) (g.L.Source.source c.args.link.now) (g.L.Source.source c.next.new.source) (g.L.Sink.sink c.args.link.now) (g.L.Sink.sink c.next.new.source)
    (g.C.Clock.moments c.args.clock.now) c.args.self.now.reader.held comes.read c.args.messages goes same comes.taken c.next.ensures.faults c.next.new.self.last c.next.new.self.held comes.next.0 in
    subst (λ (held : List ℕ). GoesBehind c.args.host_key.now start (session_at (g.V.Service.service c.args.service.now) (g.L.Source.source c.refuse.new.link) (g.L.Sink.sink c.refuse.new.link) (g.C.Clock.moments c.args.clock.now)) held c.args.messages (Ok c.in_ok-end-in-Faulty.end))
    (ap (λ (reader : ReaderValue). reader.held) (sym c.in_ok-end-in-Faulty.ensures.reader))
    (c.in_ok-end-in-Faulty.ensures.turn c.args.host_key.now start (g.V.Service.service c.args.service.now) (g.C.Clock.moments c.args.clock.now) c.args.messages comes.next.1 front comes.next.2 comes.next.3)

pub returns-in-Ended-clause-turn : goal.returns-in-Ended-clause-turn
returns-in-Ended-clause-turn g c = λ start goes.
    let same = sym (g.met.L.Link.sink_side_is c.next.new.source) ∙ c.next.ensures.sink_side ∙ g.met.L.Link.sink_side_is c.args.link.now in
    let comes = c.in-Ended.ensures.comes in
    turn-ended c.args.host_key.now start (g.V.Service.service c.args.service.now) (g.L.Source.source c.args.link.now) (g.L.Source.source c.next.new.source) (g.L.Sink.sink c.args.link.now) (g.L.Sink.sink c.next.new.source)
    (g.C.Clock.moments c.args.clock.now) c.args.self.now.reader.held comes.read c.args.messages goes same comes.taken c.next.ensures.faults comes.next.0 comes.next.1 comes.next.2

pub returns-in-CutShort-clause-turn : goal.returns-in-CutShort-clause-turn
returns-in-CutShort-clause-turn g c = λ start goes.
    let same = sym (g.met.L.Link.sink_side_is c.next.new.source) ∙ c.next.ensures.sink_side ∙ g.met.L.Link.sink_side_is c.args.link.now in
    let comes = c.in-CutShort.ensures.comes in
    turn-cut_short c.args.host_key.now start (g.V.Service.service c.args.service.now) (g.L.Source.source c.args.link.now) (g.L.Source.source c.next.new.source) (g.L.Sink.sink c.args.link.now) (g.L.Sink.sink c.next.new.source)
    (g.C.Clock.moments c.args.clock.now) c.args.self.now.reader.held comes.read c.args.messages goes same comes.taken c.next.ensures.faults comes.next.0 comes.next.1 comes.next.2

pub returns-in-ReadFault-clause-turn : goal.returns-in-ReadFault-clause-turn
returns-in-ReadFault-clause-turn g c = λ start goes.
    let same = sym (g.met.L.Link.sink_side_is c.next.new.source) ∙ c.next.ensures.sink_side ∙ g.met.L.Link.sink_side_is c.args.link.now in
    let comes = c.in-ReadFault.ensures.comes in
    turn-read_fault c.args.host_key.now start (g.V.Service.service c.args.service.now) (g.L.Source.source c.args.link.now) (g.L.Source.source c.next.new.source) (g.L.Sink.sink c.args.link.now) (g.L.Sink.sink c.next.new.source)
    (g.C.Clock.moments c.args.clock.now) c.args.self.now.reader.held comes.read c.args.messages goes same comes.taken c.next.ensures.faults comes.next c.in-ReadFault.ensures.cause
