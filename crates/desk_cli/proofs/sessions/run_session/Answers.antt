use Rattle.desk_cli.proofs.Throughout.{holds_throughout}
use Rattle.desk_cli.proofs.sessions.run_session.Goals as goal

pub returns-clause-throughout : goal.returns-clause-throughout
returns-clause-throughout g c = holds_throughout c.end-desk.result c.log-log.ensures.of_ledger
