use Rattle.std.proofs.Common.{◌≡◌, ◌+◌, ◌<◌, ◌^◌, ◌==◌, filter, length, map, ap, subst, sym, ◌∙◌, arith}
use Rattle.desk_types.specs.declared.reply.HostDay.{HostDay}
use Rattle.desk_types.specs.declared.rows.Campaign.{Campaign}
use Rattle.desk_types.specs.Reports.{campaign_day}
use Rattle.desk_core.specs.LedgerValue.{LedgerValue}
use Rattle.desk_core.specs.Sums.{HasRoomFor, with_rows}
use Rattle.desk_core.proofs.HostDays.{campaigns_up_to, room_more, sums_all, sums_more, sums_up_to}
use Rattle.desk_core.proofs.ledger.Ledger.host_day.Goals as goal

pub with_campaigns-sums-requires-clause-room : goal.with_campaigns-sums-requires-clause-room
with_campaigns-sums-requires-clause-room c =
    let S = c.args.self.now.state in
    let at = c.loop-before in
    let n = c.count-accounts.result in
    let own = c.campaigns.ensures ∙ ap (λ (V : LedgerValue). filter (λ (k : Campaign). k.account == at.before + 1) V.state.tables.campaigns) c.self.view_is in
    let accounts = c.count-accounts.ensures.count ∙ ap (λ (V : LedgerValue). length V.state.tables.accounts) c.self.view_is in
    let whole = subst (λ (V : LedgerValue). V.state.tables.campaigns ≡ campaigns_up_to V.state.tables.campaigns n) c.self.view_is c.count-accounts.ensures.campaigns in
    let rows : length c.self.inside.placements.rows ≡ length S.tables.placements = ap (λ (V : LedgerValue). length V.state.tables.placements) c.self.view_is in
    let few : length S.tables.placements < 2 ^ 63 = omega (arith, c.count.ensures.count, c.count.ensures.below, rows) in
    let room = room_more S c.args.day n at.before n c.requires.sound few c.loop-before-test.true accounts whole in
    subst (λ (s : HostDay). HasRoomFor s (map (campaign_day S s.day) c.campaigns.result.now)) (sym at.invariant)
    (subst (λ cs. HasRoomFor (sums_up_to S c.args.day n at.before) (map (campaign_day S c.args.day) cs)) (sym own) room)

pub loop-before-preserved : goal.loop-before-preserved
loop-before-preserved c =
    let S = c.args.self.now.state in
    let at = c.loop-before in
    let n = c.count-accounts.result in
    let own = c.campaigns.ensures ∙ ap (λ (V : LedgerValue). filter (λ (k : Campaign). k.account == at.before + 1) V.state.tables.campaigns) c.self.view_is in
    c.with_campaigns-sums.ensures
    ∙ ap (λ (s : HostDay). with_rows s (map (campaign_day S s.day) c.campaigns.result.now)) at.invariant
    ∙ ap (λ cs. with_rows (sums_up_to S c.args.day n at.before) (map (campaign_day S c.args.day) cs)) own
    ∙ sums_more S c.args.day n at.before

pub returns : goal.returns
returns c =
    let S = c.args.self.now.state in
    let at = c.loop-before in
    let n = c.count-accounts.result in
    let accounts = c.count-accounts.ensures.count ∙ ap (λ (V : LedgerValue). length V.state.tables.accounts) c.self.view_is in
    let whole = subst (λ (V : LedgerValue). V.state.tables.campaigns ≡ campaigns_up_to V.state.tables.campaigns n) c.self.view_is c.count-accounts.ensures.campaigns in
    let end : at.before ≡ n = omega (arith, c.loop-before-test.false, at.auto.before-end) in
    at.invariant ∙ ap (sums_up_to S c.args.day n) end ∙ sums_all S c.args.day n accounts whole
