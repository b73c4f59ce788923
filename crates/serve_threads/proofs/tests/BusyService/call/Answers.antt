use Rattle.std.proofs.Common.{◌≢◌, [], rules, refl}
use Rattle.std.proofs.lemmas.List.Elements.{All-nil}
use Rattle.desk_types.specs.declared.entry.Entry.{Entry}
use Rattle.serve_threads.proofs.tests.BusyService.call.Goals as goal

pub returns-clause-serves : goal.returns-clause-serves
returns-clause-serves c = record {
  others = [];
  of_others = All-nil (λ (e : Entry). e.caller ≢ 1);
  ends = search rules;
  legal = search rules;
  stays = refl;
  sure_result = λ _. tt;
}
