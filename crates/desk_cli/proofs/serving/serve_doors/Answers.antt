use Rattle.std.proofs.Common.{inl, rules}
use Rattle.desk_cli.proofs.Throughout.{holds_throughout}
use Rattle.desk_cli.proofs.serving.serve_doors.Goals as goal

pub returns-in-Ok-serve_desk-clause-ended : goal.returns-in-Ok-serve_desk-clause-ended
returns-in-Ok-serve_desk-clause-ended g c =
    let desk = c.in-Ok-serve_desk.served.desk in
    inl (record {
      desk = desk;
      key = c.args.host_key.now;
      totals = c.in-Ok-serve_desk.served.totals;
      is_told = c.requires.key;
      has_desk = record {
        there = search rules;
        no_keeper = search rules;
        opened = search rules;
        throughout = holds_throughout desk c.in-Ok-serve_desk.ensures.of_ledger;
      };
      served = search rules;
      said = search rules;
    })
