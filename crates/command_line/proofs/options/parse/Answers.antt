use Rattle.std.proofs.Common.{map, string_bytes}
use Rattle.command_line.proofs.OptionLemmas.{taken, not_taken, found}
use Rattle.command_line.proofs.options.parse.Goals as goal

pub returns-in-Ok-clause-taken : goal.returns-in-Ok-clause-taken
returns-in-Ok-clause-taken c = taken c.args.command _ (map string_bytes c.args.words.now) c.in_ok-parser.ensures c.in-Ok.ensures.kinds

pub returns-in-Ok-clause-found : goal.returns-in-Ok-clause-found
returns-in-Ok-clause-found c =
    found c.args.command _ (map string_bytes c.args.words.now) c.in_ok-parser.ensures c.in-Ok.matches c.in-Ok.ensures.matches

pub returns-in-Err-clause-refused : goal.returns-in-Err-clause-refused
returns-in-Err-clause-refused c e =
    not_taken c.args.command _ (map string_bytes c.args.words.now) c.in_ok-parser.ensures c.in-Err.error c.in-Err.ensures.kinds
    (c.words_fault.ensures (cc))
