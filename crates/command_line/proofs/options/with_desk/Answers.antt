use Rattle.std.proofs.Common.{[], sym}
use Rattle.std.proofs.lemmas.Result.{IfOk-weaker}
use Rattle.clap.specs.Simple.{App, app_of}
use Rattle.command_line.proofs.OptionLemmas.{added, with_options-nil}
use Rattle.command_line.proofs.options.with_desk.Goals as goal

pub returns : goal.returns
returns c =
    let first : App = app_of c.args.parser in
    let one = added first [] _ _ _ _ c.in_ok-arg.ensures c.named.ensures.local c.named.ensures.rule (sym (with_options-nil first)) in
    let two = added first _ _ _ _ _ c.in_ok-arg-2.ensures c.named-2.ensures.local c.named-2.ensures.rule one in
    let three = added first _ _ _ _ _ c.in_ok-arg-3.ensures c.named-3.ensures.local c.named-3.ensures.rule two in
    let four = added first _ _ _ _ _ c.in_ok-arg-4.ensures c.named-4.ensures.local c.named-4.ensures.rule three in
    let five = added first _ _ _ _ _ c.in_ok-arg-5.ensures c.named-5.ensures.local c.named-5.ensures.rule four in
    IfOk-weaker c.arg-6.result _ _ (λ more adds. added first _ _ _ _ _ adds c.named-6.ensures.local c.named-6.ensures.rule five) c.arg-6.ensures
