use Rattle.std.proofs.Common.{◌∙◌, [], sym, ap, rules}
use Rattle.std.proofs.lemmas.Result.{IfOk-weaker}
use Rattle.clap.specs.Walk.{rule_of}
use Rattle.clap.specs.Simple.{App, app_of}
use Rattle.command_line.specs.Options.{required}
use Rattle.command_line.proofs.OptionLemmas.{added, with_options-nil}
use Rattle.command_line.proofs.options.with_drill.Goals as goal

pub returns : goal.returns
returns c =
    let first : App = app_of c.args.parser in
    let start = added first [] _ _ _ c.required.result c.in_ok-arg.ensures (search rules)
    (ap rule_of c.required.ensures ∙ ap required c.new.ensures.rule) (sym (with_options-nil first)) in
    IfOk-weaker c.arg-2.result _ _
    (λ more adds. added first _ _ _ _ c.required-2.result adds (search rules)
    (ap rule_of c.required-2.ensures ∙ ap required c.new-2.ensures.rule) start) c.arg-2.ensures
