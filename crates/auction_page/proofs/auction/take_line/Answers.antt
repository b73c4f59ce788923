use Rattle.std.proofs.Common.{◌∙◌, Ok, Err, sym}
use Rattle.std.proofs.lemmas.Result.{err_from_is_err_and}
use Rattle.desk_io.proofs.ReadSoFar.{step-last}
use Rattle.auction_page.proofs.Turns.{goes, spoken, ends-there, cut-off, taken-spoken, taken-skipped, not-last}
use Rattle.auction_page.proofs.auction.take_line.Goals as goal

pub returns-in_err-take-in-Text-clause-goes : goal.returns-in_err-take-in-Text-clause-goes
returns-in_err-take-in-Text-clause-goes g c = λ whole reading.
    let p = err_from_is_err_and c.from_residual.result c.from_residual.ensures.1 in
    rw (p.1, p.2) (spoken whole c.args.lines.now (g.S.Source.source c.args.input.now).left c.args.reading.now reading c.next.new.self (g.S.Source.source c.next.new.source).left
    c.in-Text.ensures.line c.in-Text.ensures.passed c.number.result c.text.result.now c.take.new.self c.in_err-take-in-Text.field-0.0
    c.number.ensures c.text.ensures c.in_err-take-in-Text.ensures)

pub returns-in_ok-take-in-Text-clause-goes : goal.returns-in_ok-take-in-Text-clause-goes
returns-in_ok-take-in-Text-clause-goes g c = λ whole reading.
    goes whole c.args.lines.now (g.S.Source.source c.args.input.now).left c.args.reading.now reading c.next.new.self (g.S.Source.source c.next.new.source).left
    c.in-Text.ensures.line c.take.new.self _
    (not-last c.is_last.result c.next.new.self.is_ended c.is_last.ensures)
    (taken-spoken reading.texts c.args.reading.now reading.taken c.next.new.self.count c.next.new.self.text c.in-Text.ensures.passed
    ∙ (rw (c.number.ensures, c.text.ensures) at c.in_ok-take-in-Text.ensures))

pub returns-in_ok-take-in-Text-clause-all_read : goal.returns-in_ok-take-in-Text-clause-all_read
returns-in_ok-take-in-Text-clause-all_read g c = λ is.
    step-last c.args.lines.now c.next.new.self (g.S.Source.source c.args.input.now).left (g.S.Source.source c.next.new.source).left c.in-Text.ensures.line
    (sym (not-last c.is_last.result c.next.new.self.is_ended c.is_last.ensures) ∙ (let e = is in cc))

pub returns-in-Skipped-clause-goes : goal.returns-in-Skipped-clause-goes
returns-in-Skipped-clause-goes g c = λ whole reading.
    goes whole c.args.lines.now (g.S.Source.source c.args.input.now).left c.args.reading.now reading c.next.new.self (g.S.Source.source c.next.new.source).left
    c.in-Skipped.ensures.line c.args.reading.now _
    (not-last c.is_last-in-Skipped.result c.next.new.self.is_ended c.is_last-in-Skipped.ensures)
    (taken-skipped reading.texts c.args.reading.now reading.taken c.next.new.self.count c.next.new.self.text c.in-Skipped.ensures.passed)

pub returns-in-Skipped-clause-all_read : goal.returns-in-Skipped-clause-all_read
returns-in-Skipped-clause-all_read g c = λ is.
    step-last c.args.lines.now c.next.new.self (g.S.Source.source c.args.input.now).left (g.S.Source.source c.next.new.source).left c.in-Skipped.ensures.line
    (sym (not-last c.is_last-in-Skipped.result c.next.new.self.is_ended c.is_last-in-Skipped.ensures) ∙ (let e = is in cc))

pub returns-in-End-clause-goes : goal.returns-in-End-clause-goes
returns-in-End-clause-goes g c = λ whole reading.
    ends-there whole c.args.lines.now (g.S.Source.source c.args.input.now).left c.args.reading.now reading (Ok c.next.new.self.count) c.in-End.ensures.told

pub returns-in-Fault-clause-goes : goal.returns-in-Fault-clause-goes
returns-in-Fault-clause-goes g c = λ whole reading.
    ends-there whole c.args.lines.now (g.S.Source.source c.args.input.now).left c.args.reading.now reading (Err c.in-Fault.fault) c.in-Fault.ensures.told

pub returns-in-ReadFault-clause-goes : goal.returns-in-ReadFault-clause-goes
returns-in-ReadFault-clause-goes g c = λ whole reading.
    cut-off whole c.args.lines.now (g.S.Source.source c.args.input.now).left c.args.reading.now reading c.next.new.self (g.S.Source.source c.next.new.source).left
    c.in-ReadFault.ensures.line.0 c.in-ReadFault.ensures.line.1
