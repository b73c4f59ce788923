use Rattle.std.proofs.Common.{Ok, Err, sym, subst}
use Rattle.std.proofs.lemmas.Result.{err_from_is_err_and}
use Rattle.script_api.specs.ScriptRun.{script_at}
use Rattle.script_api.specs.ScriptTurn.{midway, Goes}
use Rattle.script_api.proofs.Turning.{turn-flushed, turn-unflushed, turn-text, turn-told, turn-cut, turn-skipped, not-ended}
use Rattle.script_api.proofs.serving.LineServing.serve_line.Goals as goal

pub returns-in_err-flush_before_read-clause-turn : goal.returns-in_err-flush_before_read-clause-turn
returns-in_err-flush_before_read-clause-turn g c = λ start so_far.
    let p = err_from_is_err_and c.from_residual.result c.from_residual.ensures.1 in
    let source = g.S.Source.source c.args.input.now in
    rw p.1
    (turn-unflushed start _ source source _ _ c.args.self.now.lines c.args.self.now.lines _ _ so_far c.in_err-flush_before_read.field-0.0 c.in_err-flush_before_read.ensures.puts)

pub returns-in-Text-clause-turn : goal.returns-in-Text-clause-turn
returns-in-Text-clause-turn g c = λ start so_far.
    let source = g.S.Source.source c.args.input.now in
    let lines = c.flush_before_read.new.self.lines in
    let waiting = c.flush_before_read.new.self.answers in
    let sink = g.T.Sink.sink c.flush_before_read.new.output in
    let flushed = turn-flushed start _ source source _ sink _ lines _ waiting so_far c.in_ok-flush_before_read.ensures.lines c.in_ok-flush_before_read.ensures.puts in
    c.serve_text.ensures.turn start (g.S.Source.source c.next.new.source)
    (turn-text start _ source (g.S.Source.source c.next.new.source) sink sink lines c.next.new.self waiting waiting flushed c.in-Text.ensures.line c.in-Text.ensures.faults c.in-Text.ensures.passed)

pub returns-in-Skipped-clause-turn : goal.returns-in-Skipped-clause-turn
returns-in-Skipped-clause-turn g c = λ start so_far.
    let source = g.S.Source.source c.args.input.now in
    let lines = c.flush_before_read.new.self.lines in
    let waiting = c.flush_before_read.new.self.answers in
    let sink = g.T.Sink.sink c.flush_before_read.new.output in
    let flushed = turn-flushed start _ source source _ sink _ lines _ waiting so_far c.in_ok-flush_before_read.ensures.lines c.in_ok-flush_before_read.ensures.puts in
    subst (λ r. Goes start (midway (script_at (g.V.Service.service c.args.service.now) (g.S.Source.source c.next.new.source) sink) c.next.new.self waiting) (Ok r)) (sym c.end_of_last.ensures)
    (turn-skipped start _ source (g.S.Source.source c.next.new.source) sink lines c.next.new.self waiting flushed c.in-Skipped.ensures.line c.in-Skipped.ensures.faults c.in-Skipped.ensures.passed)

pub returns-in-End-clause-turn : goal.returns-in-End-clause-turn
returns-in-End-clause-turn g c = λ start so_far.
    let source = g.S.Source.source c.args.input.now in
    let lines = c.flush_before_read.new.self.lines in
    let waiting = c.flush_before_read.new.self.answers in
    let sink = g.T.Sink.sink c.flush_before_read.new.output in
    let flushed = turn-flushed start _ source source _ sink _ lines _ waiting so_far c.in_ok-flush_before_read.ensures.lines c.in_ok-flush_before_read.ensures.puts in
    turn-told start _ source (g.S.Source.source c.next.new.source) sink sink lines c.next.new.self waiting waiting flushed (Ok c.next.new.self.count) c.in-End.ensures.told c.in-End.ensures.faults (λ _. c.in-End.ensures.line)

pub returns-in-Fault-clause-turn : goal.returns-in-Fault-clause-turn
returns-in-Fault-clause-turn g c = λ start so_far.
    let source = g.S.Source.source c.args.input.now in
    let lines = c.flush_before_read.new.self.lines in
    let waiting = c.flush_before_read.new.self.answers in
    let sink = g.T.Sink.sink c.flush_before_read.new.output in
    let flushed = turn-flushed start _ source source _ sink _ lines _ waiting so_far c.in_ok-flush_before_read.ensures.lines c.in_ok-flush_before_read.ensures.puts in
    rw c.end_of_fault.ensures
    (turn-told start _ source (g.S.Source.source c.next.new.source) sink sink lines c.next.new.self waiting waiting flushed (Err c.in-Fault.fault) c.in-Fault.ensures.told c.in-Fault.ensures.faults (λ is. absurd (not-ended c.in-Fault.fault is)))

pub returns-in-ReadFault-clause-turn : goal.returns-in-ReadFault-clause-turn
returns-in-ReadFault-clause-turn g c = λ start so_far.
    let source = g.S.Source.source c.args.input.now in
    let lines = c.flush_before_read.new.self.lines in
    let waiting = c.flush_before_read.new.self.answers in
    let sink = g.T.Sink.sink c.flush_before_read.new.output in
    let flushed = turn-flushed start _ source source _ sink _ lines _ waiting so_far c.in_ok-flush_before_read.ensures.lines c.in_ok-flush_before_read.ensures.puts in
    turn-cut start _ source (g.S.Source.source c.next.new.source) sink sink lines c.next.new.self waiting waiting flushed c.in-ReadFault.ensures.line.0 c.in-ReadFault.ensures.line.1 c.in-ReadFault.ensures.cause c.in-ReadFault.ensures.faults
