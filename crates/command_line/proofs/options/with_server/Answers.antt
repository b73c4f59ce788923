use Rattle.std.proofs.Common.{◌∙◌, ap, rules}
use Rattle.std.proofs.lemmas.Result.{IfOk-weaker}
use Rattle.clap.specs.Walk.{rule_of}
use Rattle.clap.specs.Simple.{App, app_of}
use Rattle.command_line.specs.Options.{required, host_options}
use Rattle.command_line.proofs.OptionLemmas.{added}
use Rattle.command_line.proofs.options.with_server.Goals as goal

pub returns : goal.returns
returns c =
    let first : App = app_of c.args.parser in
    let port = added first host_options _ _ _ c.required.result c.in_ok-arg.ensures (search rules)
    (ap rule_of c.required.ensures ∙ ap required c.named.ensures.rule) c.in_ok-with_host.ensures in
    let workers = added first _ _ _ _ c.required-2.result c.in_ok-arg-2.ensures (search rules)
    (ap rule_of c.required-2.ensures ∙ ap required c.named-2.ensures.rule) port in
    IfOk-weaker c.arg-3.result _ _
    (λ more adds. added first _ _ _ _ _ adds c.named-3.ensures.local c.named-3.ensures.rule workers) c.arg-3.ensures
