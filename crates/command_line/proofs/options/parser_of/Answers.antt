use Rattle.std.proofs.Common.{◌∙◌, ap, sym}
use Rattle.std.proofs.lemmas.Result.{IfOk-weaker}
use Rattle.command_line.specs.Options.{clap_command}
use Rattle.command_line.specs.declared.command.Command.TheVariants.{Auction, Script, Run, Drill, Serve}
use Rattle.command_line.proofs.OptionLemmas.{made, with_options-nil}
use Rattle.command_line.proofs.options.parser_of.Goals as goal

pub returns-in-Auction : goal.returns-in-Auction
returns-in-Auction c =
    made Auction _ _ c.new.ensures.app (sym (with_options-nil _)) ∙ ap clap_command (sym c.in-Auction.is)

pub returns-in-Script : goal.returns-in-Script
returns-in-Script c = IfOk-weaker c.with_desk.result _ _
    (λ parser same. made Script _ _ c.new-in-Script.ensures.app same ∙ ap clap_command (sym c.in-Script.is)) c.with_desk.ensures

pub returns-in-Run : goal.returns-in-Run
returns-in-Run c = IfOk-weaker c.with_host.result _ _
    (λ parser same. made Run _ _ c.new-in-Run.ensures.app same ∙ ap clap_command (sym c.in-Run.is)) c.with_host.ensures

pub returns-in-Drill : goal.returns-in-Drill
returns-in-Drill c = IfOk-weaker c.with_drill.result _ _
    (λ parser same. made Drill _ _ c.new-in-Drill.ensures.app same ∙ ap clap_command (sym c.in-Drill.is)) c.with_drill.ensures

pub returns-in-Serve : goal.returns-in-Serve
returns-in-Serve c = IfOk-weaker c.with_server.result _ _
    (λ parser same. made Serve _ _ c.new-in-Serve.ensures.app same ∙ ap clap_command (sym c.in-Serve.is)) c.with_server.ensures
