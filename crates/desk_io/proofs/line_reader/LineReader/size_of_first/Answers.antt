use Rattle.std.proofs.Common.{◌≡◌, ◌∙◌, ◌+◌, length, ap, arith}
use Rattle.std.specs.List.{position_or_len}
use Rattle.desk_io.specs.Lines.{is_line_feed}
use Rattle.desk_io.specs.Reader.{ReaderValue}
use Rattle.desk_io.proofs.LineFeeds.{feed-within, feed_behind}
use Rattle.desk_io.proofs.line_reader.LineReader.size_of_first.Goals as goal

pub split_at-requires : goal.split_at-requires
split_at-requires c = omega (arith, feed-within c.self.inside.window.held, ap length c.held.ensures)

pub overflow_add-self : goal.overflow_add-self
overflow_add-self c =
    let within = feed-within c.split_at.result.1.now in
    omega (arith, c.len_before_line_feed.ensures)

pub invariant_of-self : goal.invariant_of-self
invariant_of-self c =
    let held = c.self.inside.window.held in
    let searched = c.self.inside.searched in
    let total : searched + c.len_before_line_feed.result ≡ position_or_len is_line_feed held =
    rw (c.len_before_line_feed.ensures, c.split_at.ensures.back, c.held.ensures) (feed_behind held searched c.self.invariant.1) in
    (c.self.invariant.0, omega arith)

pub returns-clause-size : goal.returns-clause-size
returns-clause-size c =
    let held = c.self.inside.window.held in
    let searched = c.self.inside.searched in
    let total : searched + c.len_before_line_feed.result ≡ position_or_len is_line_feed held =
    rw (c.len_before_line_feed.ensures, c.split_at.ensures.back, c.held.ensures) (feed_behind held searched c.self.invariant.1) in
    total ∙ ap (λ (v : ReaderValue). position_or_len is_line_feed v.held) c.self.view_is
