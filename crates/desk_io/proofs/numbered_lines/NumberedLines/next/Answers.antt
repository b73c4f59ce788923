use Rattle.std.proofs.Common.{arith}
use Rattle.desk_io.specs.NextLine.{ahead}
use Rattle.desk_io.specs.NumberedValue.{NumberedValue}
use Rattle.desk_io.proofs.Ahead.{none_left}
use Rattle.desk_io.proofs.NextTold.{told-end, told-long, told-taken}
use Rattle.desk_io.proofs.numbered_lines.NumberedLines.next.Goals as goal

pub returns-in-Line-clause-told : goal.returns-in-Line-clause-told
returns-in-Line-clause-told g c =
    let read : NumberedValue = record { count = c.self.inside.count; held = c.next.new.self.held; text = c.next.new.self.line; is_ended = c.next.new.self.is_ended } in
    let was : NumberedValue = record { count = c.self.inside.count; held = c.self.inside.reader.held; text = c.self.inside.reader.line; is_ended = c.self.inside.reader.is_ended } in
    let lines = rw c.self.invariant.0 at c.in-Line.ensures.lines in
    rw (← c.self.view_is)
    (told-taken was read c.take_line.new.self (g.S.Source.source c.args.source.now).left (g.S.Source.source c.next.new.source).left c.take_line.result lines.0 lines.1
    c.take_line.ensures.full c.take_line.ensures.count c.take_line.ensures.skipped)

pub returns-in-End-clause-told : goal.returns-in-End-clause-told
returns-in-End-clause-told g c =
    rw (← c.self.view_is) (told-end c.self.inside.count (ahead c.self.inside.reader (g.S.Source.source c.args.source.now).left) c.in-End.ensures.lines.1)

pub returns-in-TooLong-clause-told : goal.returns-in-TooLong-clause-told
returns-in-TooLong-clause-told g c =
    rw (← c.self.view_is)
    (told-long c.self.inside.count (ahead c.self.inside.reader (g.S.Source.source c.args.source.now).left) c.fault_of_long.result (rw c.self.invariant.0 at c.in-TooLong.ensures.lines.1) c.fault_of_long.ensures)

pub returns-in-End-clause-line : goal.returns-in-End-clause-line
returns-in-End-clause-line g c =
    none_left c.next.new.self (g.S.Source.source c.next.new.source).left (rw c.in-End.ensures.lines.0 c.in-End.ensures.lines.1)
