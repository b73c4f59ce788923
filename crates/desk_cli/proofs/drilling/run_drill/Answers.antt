use Rattle.std.proofs.Common.{inl, rules, subst}
use Rattle.printouts.specs.Saying.{IsWritten}
use Rattle.desk_cli.specs.Saying.{summary_printout}
use Rattle.desk_cli.proofs.Throughout.{holds_throughout}
use Rattle.desk_cli.proofs.drilling.run_drill.Goals as goal

pub returns-in-Ok-clause-served : goal.returns-in-Ok-clause-served
returns-in-Ok-clause-served g c =
    inl (record {
      drilled = search rules;
      said = subst (λ s. IsWritten (g.T.Sink.sink c.args.output.now) (g.T.Sink.sink c.say_summary.new.output) (summary_printout s) c.say_summary.result)
          c.summary.ensures c.say_summary.ensures.written;
    })

pub returns-in-Ok-clause-throughout : goal.returns-in-Ok-clause-throughout
returns-in-Ok-clause-throughout g c = holds_throughout c.end-desk.result c.log-log.ensures.of_ledger

pub returns-in-Err-clause-throughout : goal.returns-in-Err-clause-throughout
returns-in-Err-clause-throughout g c = holds_throughout c.end-desk.result c.log-log.ensures.of_ledger
