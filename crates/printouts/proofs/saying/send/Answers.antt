use Rattle.printouts.proofs.Sending.{sends_put}
use Rattle.printouts.proofs.saying.send.Goals as goal

pub returns-clause-sends : goal.returns-clause-sends
returns-clause-sends g c =
    sends_put (g.T.Sink.sink c.args.output.now) (g.T.Sink.sink c.put_all.new.sink) (g.T.Sink.sink c.flush.new.sink) c.args.out.now c.put_all.new.self c.flush.new.self
    _ c.flush.result c.requires c.in_ok-put_all.ensures.puts c.flush.ensures.flushes
