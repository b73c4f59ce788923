use Rattle.std.proofs.Common.{◌∙◌, ap}
use Rattle.desk_io.specs.Lines.{has_line_feed}
use Rattle.desk_io.specs.Reader.{ReaderValue}
use Rattle.desk_io.proofs.LineFeeds.{has_feed-found}
use Rattle.desk_io.proofs.line_reader.LineReader.has_line.Goals as goal

pub returns : goal.returns
returns c =
    c.is_some.ensures ∙ has_feed-found c.held.result.now c.memchr.result c.memchr.ensures
    ∙ ap has_line_feed c.held.ensures ∙ ap (λ (v : ReaderValue). has_line_feed v.held) c.self.view_is
