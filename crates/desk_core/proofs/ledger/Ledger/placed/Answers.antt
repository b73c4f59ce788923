use Rattle.std.proofs.Common.{◌≡◌, ◌+◌, ◌∙◌, ap, subst, sym, length, arith}
use Rattle.std.specs.Prelude.{Contains}
use Rattle.auction_types.specs.Page.{next_below, place}
use Rattle.desk_types.specs.Changes.{placed}
use Rattle.desk_core.proofs.Placing.{placed_more}
use Rattle.desk_core.proofs.ledger.Ledger.placed.Goals as goal

pub loop-index-preserved : goal.loop-index-preserved
loop-index-preserved c = λ entered h.
    let i = c.loop-index.index in
    let r = c.index-page-index.result in
    let S = c.args.self.now.state in
    let page = c.args.page.now in
    let at = c.index-page-index.is in
    let rows : length c.self.inside.placements.rows ≡ length S.tables.placements = ap (λ V. length V.state.tables.placements) c.self.view_is in
    let next : c.count-first.result + 1 + i ≡ length S.tables.placements + 1 + i = omega (arith, c.count-first.ensures.count, rows) in
    let is = c.placement.ensures entered h.different_accounts
    (subst (λ q. Contains entered q.ad) (sym at) (h.entrants i r c.loop-index-test.true))
    (subst (λ q. next_below entered q.ad ≡ q.next) (sym at) (h.nexts i r c.loop-index-test.true))
    (subst (λ q. place entered q.ad ≡ i + 1) (sym at) (h.places i r c.loop-index-test.true)) in
    c.in_ok-push.ensures.items
    ∙ placed_more S entered (length S.tables.placements + 1) i page r c.placement.result c.loop-index.placements.items c.loop-index-test.true at
    (c.loop-index.invariant entered h) (is ∙ ap (λ n. placed S entered n r.ad) next)
