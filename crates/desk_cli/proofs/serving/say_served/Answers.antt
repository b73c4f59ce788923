use Rattle.std.proofs.Common.{inl, subst}
use Rattle.desk_io.specs.Writing.{Appends}
use Rattle.desk_types.specs.declared.summary.Summary.{Summary}
use Rattle.desk_cli.specs.Saying.{served_printout}
use Rattle.desk_cli.proofs.serving.say_served.Goals as goal

pub returns-in-Ok-clause-printed : goal.returns-in-Ok-clause-printed
returns-in-Ok-clause-printed g c =
    let Says = λ (s : Summary). Appends (g.T.Sink.sink c.args.output.now) (g.T.Sink.sink c.send_served.new.output) (served_printout c.args.served.now.totals s).text in
    inl (record {
      answered = c.status_of.ensures;
      appended = subst Says c.summary.ensures c.in-Ok.ensures.sends.sent;
    })
