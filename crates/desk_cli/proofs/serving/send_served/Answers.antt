use Rattle.printouts.proofs.Sending.{sends_put}
use Rattle.desk_cli.proofs.serving.send_served.Goals as goal

pub returns-clause-sends : goal.returns-clause-sends
returns-clause-sends g c =
    sends_put (g.T.Sink.sink c.args.output.now) (g.T.Sink.sink c.put_served.new.output) (g.T.Sink.sink c.flush.new.sink) c.args.out.now c.put_served.new.out c.flush.new.self
    _ c.flush.result c.requires c.in_ok-put_served.ensures.puts c.flush.ensures.flushes
