use Rattle.desk_io.proofs.LineFeeds.{feed_found, feed_none}
use Rattle.desk_io.proofs.line_reader.len_before_line_feed.Goals as goal

pub returns-in-Some : goal.returns-in-Some
returns-in-Some c = feed_found c.args.bytes.now c.in-Some.place c.in-Some.ensures

pub returns-in-None : goal.returns-in-None
returns-in-None c = feed_none c.args.bytes.now c.in-None.ensures
