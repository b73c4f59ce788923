use Rattle.std.proofs.Common.{◌∙◌, ap, rules}
use Rattle.std.proofs.lemmas.Result.{IfOk-weaker}
use Rattle.clap.specs.Walk.{rule_of}
use Rattle.clap.specs.Simple.{App, app_of}
use Rattle.command_line.specs.Options.{required, desk_options}
use Rattle.command_line.proofs.OptionLemmas.{added}
use Rattle.command_line.proofs.options.with_host.Goals as goal

pub returns : goal.returns
returns c =
    let first : App = app_of c.args.parser in
    IfOk-weaker c.arg.result _ _
    (λ more adds. added first desk_options _ _ _ c.required.result adds (search rules)
    (ap rule_of c.required.ensures ∙ ap required c.named.ensures.rule) c.in_ok-with_desk.ensures) c.arg.ensures
