use Rattle.std.proofs.Common.{ap, arith}
use Rattle.desk_types.specs.declared.reply.HostDay.{HostDay}
use Rattle.desk_types.specs.Reports.{campaign_day}
use Rattle.desk_core.proofs.HostDays.{fits_more}
use Rattle.desk_core.proofs.ledger.Ledger.with_campaigns.Goals as goal

pub overflow_add-all : goal.overflow_add-all
overflow_add-all c =
    let at = c.loop-campaign in
    let row = campaign_day c.args.self.now.state c.args.sums.day in
    let more = fits_more (λ r. r.shown) row c.args.sums.shown at.campaign-index c.args.campaigns.now _ c.campaign_day-row.result c.loop-campaign-test.true c.campaign_day-row.ensures c.requires.room.shown in
    omega (arith, ap (λ (s : HostDay). s.shown) at.invariant, more)

pub overflow_add-all-in-loop-campaign : goal.overflow_add-all-in-loop-campaign
overflow_add-all-in-loop-campaign c =
    let at = c.loop-campaign in
    let row = campaign_day c.args.self.now.state c.args.sums.day in
    let more = fits_more (λ r. r.clicks) row c.args.sums.clicks at.campaign-index c.args.campaigns.now _ c.campaign_day-row.result c.loop-campaign-test.true c.campaign_day-row.ensures c.requires.room.clicks in
    omega (arith, ap (λ (s : HostDay). s.clicks) at.invariant, more)

pub overflow_add-all-in-loop-campaign-2 : goal.overflow_add-all-in-loop-campaign-2
overflow_add-all-in-loop-campaign-2 c =
    let at = c.loop-campaign in
    let row = campaign_day c.args.self.now.state c.args.sums.day in
    let more = fits_more (λ r. r.spent) row c.args.sums.spent at.campaign-index c.args.campaigns.now _ c.campaign_day-row.result c.loop-campaign-test.true c.campaign_day-row.ensures c.requires.room.spent in
    omega (arith, ap (λ (s : HostDay). s.spent) at.invariant, more)

pub overflow_add-all-in-loop-campaign-3 : goal.overflow_add-all-in-loop-campaign-3
overflow_add-all-in-loop-campaign-3 c =
    let at = c.loop-campaign in
    let row = campaign_day c.args.self.now.state c.args.sums.day in
    let more = fits_more (λ r. r.escrowed) row c.args.sums.escrowed at.campaign-index c.args.campaigns.now _ c.campaign_day-row.result c.loop-campaign-test.true c.campaign_day-row.ensures c.requires.room.escrowed in
    omega (arith, ap (λ (s : HostDay). s.escrowed) at.invariant, more)

pub overflow_add-all-in-loop-campaign-4 : goal.overflow_add-all-in-loop-campaign-4
overflow_add-all-in-loop-campaign-4 c =
    let at = c.loop-campaign in
    let row = campaign_day c.args.self.now.state c.args.sums.day in
    let more = fits_more (λ r. r.credited) row c.args.sums.credited at.campaign-index c.args.campaigns.now _ c.campaign_day-row.result c.loop-campaign-test.true c.campaign_day-row.ensures c.requires.room.credited in
    omega (arith, ap (λ (s : HostDay). s.credited) at.invariant, more)
