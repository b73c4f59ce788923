use Rattle.std.proofs.Common.{◌∙◌, ap, take, arith}
use Rattle.std.specs.List.{position_or_len}
use Rattle.desk_io.specs.Lines.{is_line_feed}
use Rattle.desk_io.specs.WindowValue.{bytes_got}
use Rattle.desk_io.proofs.LineFeeds.{feed_later}
use Rattle.desk_io.proofs.line_reader.LineReader.fill.Goals as goal

pub invariant_of-self : goal.invariant_of-self
invariant_of-self g c =
    let fills = c.fill.ensures.bytes in
    let later = feed_later c.self.inside.window.held (take (bytes_got c.fill.result) fills.room) in
    (c.fill.ensures.size ∙ c.self.invariant.0, omega (arith, ap (position_or_len is_line_feed) fills.grew))
