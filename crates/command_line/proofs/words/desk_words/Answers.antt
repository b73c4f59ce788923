use Rattle.std.proofs.Common.{◌∙◌, ap, sym, subst, map, string_bytes, rules, Option}
use Rattle.std.proofs.lemmas.Result.{IfOk-weaker}
use Rattle.command_line.specs.Reading.{AnswersTold, told_by_words}
use Rattle.command_line.specs.Values.{values_told}
use Rattle.command_line.specs.declared.told.Told.{Told}
use Rattle.command_line.proofs.ToldLemmas.{all_taken, none_named, none_taken, ok_told, refused_told, well_told}
use Rattle.command_line.proofs.words.desk_words.Goals as goal

pub returns-in_default-clause-refused : goal.returns-in_default-clause-refused
returns-in_default-clause-refused c e = none_named (map string_bytes c.args.words.now) (search rules)

pub returns-in_err-matches-clause-refused : goal.returns-in_err-matches-clause-refused
returns-in_err-matches-clause-refused c e =
    none_taken (map string_bytes c.args.words.now) c.in-Some.command (search rules) (c.parse.ensures.refused (search rules))

pub returns-clause-told : goal.returns-clause-told
returns-clause-told c =
    let words = map string_bytes c.args.words.now in
    let told = all_taken words c.in-Some.command (search rules) c.in_ok-matches.ensures.taken
    ∙ ap (values_told c.in-Some.command) (sym c.in_ok-matches.ensures.found) in
    ok_told (told_by_words words) c.tell.result (subst (λ (o : Option Told). AnswersTold o c.tell.result) (sym told) c.tell.ensures)

pub returns-clause-refused : goal.returns-clause-refused
returns-clause-refused c =
    let words = map string_bytes c.args.words.now in
    let told = all_taken words c.in-Some.command (search rules) c.in_ok-matches.ensures.taken
    ∙ ap (values_told c.in-Some.command) (sym c.in_ok-matches.ensures.found) in
    refused_told (told_by_words words) c.tell.result (subst (λ (o : Option Told). AnswersTold o c.tell.result) (sym told) c.tell.ensures)

pub returns-clause-well : goal.returns-clause-well
returns-clause-well c =
    IfOk-weaker c.tell.result _ _ (λ t told. well_told (map string_bytes c.args.words.now) t told) (returns-clause-told c)
