use Rattle.std.proofs.Common.{◌≡◌, ◌+◌, ap, ◌∙◌}
use Rattle.std.proofs.lemmas.Result.{err_from_is_err_and}
use Rattle.desk_types.specs.declared.call.Call.TheVariants.{AddAccount, AddCampaign, SetQuality}
use Rattle.drill_calls.specs.Draws.{behind_draws, nth_draw}
use Rattle.drill_calls.specs.DrillTexts.{drill_key}
use Rattle.drill_calls.specs.Making.{standing}
use Rattle.drill_calls.proofs.Drawing.{draws-then}
use Rattle.drill_calls.proofs.AccountCalls.{first-part, second-part, lines-part, account-made, on-ok}
use Rattle.drill_calls.proofs.run.Progress.account.Goals as goal

pub returns-in_err-make-clause-makes : goal.returns-in_err-make-clause-makes
returns-in_err-make-clause-makes g c =
    let p = err_from_is_err_and c.from_residual.result c.from_residual.ensures.1 in
    let a = standing (g.V.Service.service c.args.service.now) c.args.self.now.made c.args.self.now.greatest in
    let b = standing (g.V.Service.service c.make.new.service) c.make.new.self.made c.make.new.self.greatest in
    rw p.1 (first-part c.args.account c.args.self.now.draws a b b b b (c.in_err-make.ensures.makes (AddAccount (drill_key c.args.account)) c.account_call-call.ensures))

pub returns-in_err-make-2-clause-makes : goal.returns-in_err-make-2-clause-makes
returns-in_err-make-2-clause-makes g c =
    let p = err_from_is_err_and c.from_residual-in_err-make-2.result c.from_residual-in_err-make-2.ensures.1 in
    let a = standing (g.V.Service.service c.args.service.now) c.args.self.now.made c.args.self.now.greatest in
    let b = standing (g.V.Service.service c.make.new.service) c.make.new.self.made c.make.new.self.greatest in
    let d = standing (g.V.Service.service c.make-2.new.service) c.make-2.new.self.made c.make-2.new.self.greatest in
    rw p.1
    (second-part c.args.account c.args.self.now.draws a b d d d
    (c.in_ok-make.ensures.makes (AddAccount (drill_key c.args.account)) c.account_call-call.ensures) c.make.new.self.draws c.make.ensures.draws
    (c.in_err-make-2.ensures.makes (AddCampaign c.args.account (drill_key c.args.account) (500 + nth_draw c.make.new.self.draws 1 2000)) c.campaign_call-call.ensures.call))

pub returns-in_err-lines-clause-makes : goal.returns-in_err-lines-clause-makes
returns-in_err-lines-clause-makes g c =
    let p = err_from_is_err_and c.from_residual-in_err-lines.result c.from_residual-in_err-lines.ensures.1 in
    let a = standing (g.V.Service.service c.args.service.now) c.args.self.now.made c.args.self.now.greatest in
    let b = standing (g.V.Service.service c.make.new.service) c.make.new.self.made c.make.new.self.greatest in
    let d = standing (g.V.Service.service c.make-2.new.service) c.make-2.new.self.made c.make-2.new.self.greatest in
    let e = standing (g.V.Service.service c.lines.new.service) c.lines.new.self.made c.lines.new.self.greatest in
    let begun = c.make-2.ensures.draws ∙ c.campaign_call-call.ensures.drawn ∙ ap (λ y. behind_draws y 1) c.make.ensures.draws in
    rw p.1
    (lines-part c.args.account c.args.self.now.draws a b d e e
    (c.in_ok-make.ensures.makes (AddAccount (drill_key c.args.account)) c.account_call-call.ensures) c.make.new.self.draws c.make.ensures.draws
    (c.in_ok-make-2.ensures.makes (AddCampaign c.args.account (drill_key c.args.account) (500 + nth_draw c.make.new.self.draws 1 2000)) c.campaign_call-call.ensures.call)
    (c.in_err-lines.ensures.makes c.args.self.now.draws begun))

pub returns-clause-draws : goal.returns-clause-draws
returns-clause-draws g c =
    let x = c.args.self.now.draws in
    let begun = c.make-2.ensures.draws ∙ c.campaign_call-call.ensures.drawn ∙ ap (λ y. behind_draws y 1) c.make.ensures.draws in
    let lines = draws-then x c.make-2.new.self.draws c.lines.new.self.draws 1 29 begun c.in_ok-lines.ensures.draws in
    on-ok c.make-3.result (c.make-3.new.self.draws ≡ behind_draws x 31)
    (c.make-3.ensures.draws ∙ draws-then x c.lines.new.self.draws c.quality_call-call.new.draws 30 1 lines c.quality_call-call.ensures.drawn)

pub returns-clause-makes : goal.returns-clause-makes
returns-clause-makes g c =
    let x = c.args.self.now.draws in
    let a = standing (g.V.Service.service c.args.service.now) c.args.self.now.made c.args.self.now.greatest in
    let b = standing (g.V.Service.service c.make.new.service) c.make.new.self.made c.make.new.self.greatest in
    let d = standing (g.V.Service.service c.make-2.new.service) c.make-2.new.self.made c.make-2.new.self.greatest in
    let e = standing (g.V.Service.service c.lines.new.service) c.lines.new.self.made c.lines.new.self.greatest in
    let f = standing (g.V.Service.service c.make-3.new.service) c.make-3.new.self.made c.make-3.new.self.greatest in
    let begun = c.make-2.ensures.draws ∙ c.campaign_call-call.ensures.drawn ∙ ap (λ y. behind_draws y 1) c.make.ensures.draws in
    let lines = draws-then x c.make-2.new.self.draws c.lines.new.self.draws 1 29 begun c.in_ok-lines.ensures.draws in
    account-made c.args.account x a b d e f
    (c.in_ok-make.ensures.makes (AddAccount (drill_key c.args.account)) c.account_call-call.ensures) c.make.new.self.draws c.make.ensures.draws
    (c.in_ok-make-2.ensures.makes (AddCampaign c.args.account (drill_key c.args.account) (500 + nth_draw c.make.new.self.draws 1 2000)) c.campaign_call-call.ensures.call)
    c.make-3.result (c.in_ok-lines.ensures.makes x begun) c.lines.new.self.draws lines
    (c.make-3.ensures.makes (SetQuality c.args.account 1 (1 + nth_draw c.lines.new.self.draws 1 100)) c.quality_call-call.ensures.call)
