use Rattle.std.proofs.Common.{◌≡◌, ◌+◌, ◌||◌, cond, Some, unwrap_or, sym, ap, ◌∙◌, arith}
use Rattle.std.specs.HashMap.{get}
use Rattle.desk_types.specs.Day.{day_of as the_day_of}
use Rattle.desk_types.specs.Money.{is_escrowed, is_spent}
use Rattle.desk_keeper.specs.DayTotals.{is_same_day, total_of}
use Rattle.desk_keeper.proofs.DayCharges.{counted, total_put, uncounted, unwrap_cond}
use Rattle.desk_keeper.proofs.soundness.charges.Charges.add.Goals as goal
use Rattle.desk_keeper.proofs.soundness.charges.Charges.add.Goals.{then-is_charged, else-is_charged}

pub overflow_add-total : goal.overflow_add-total
overflow_add-total c =
    let row = c.args.row.now in
    let before_it : c.unwrap_or-total.result ≡ total_of c.args.self.now row.account row.campaign (the_day_of row.shown) =
    c.unwrap_or-total.ensures ∙ ap (λ o. unwrap_or o 0) (c.copied.ensures ∙ c.get.ensures.value) ∙ ap (λ day. total_of c.args.self.now row.account row.campaign day) c.day_of.ensures in
    omega (arith, before_it, c.requires.fits)

pub returns-clause-totals : goal.returns-clause-totals
returns-clause-totals c =
    let row = c.args.row.now in
    let moment = c.args.self.now.moment in
    let old = total_of c.args.self.now in
    let counts = is_spent row.fate || is_escrowed moment row in
    let before_it : c.unwrap_or-total.result ≡ old row.account row.campaign (the_day_of row.shown) =
    c.unwrap_or-total.ensures ∙ ap (λ o. unwrap_or o 0) (c.copied.ensures ∙ c.get.ensures.value) ∙ ap (λ day. total_of c.args.self.now row.account row.campaign day) c.day_of.ensures in
    let total : c.if-is_charged.total ≡ old row.account row.campaign (the_day_of row.shown) + cond counts row.price 0 =
    elim c.if-is_charged.branch [
      | then-is_charged w ↦ counted counts c.if-is_charged.total (old row.account row.campaign (the_day_of row.shown)) row.price (sym c.is_charged.ensures ∙ w.if-is_charged.true) (w.total-is ∙ ap (λ n. n + row.price) before_it)
      | else-is_charged w ↦ uncounted counts c.if-is_charged.total (old row.account row.campaign (the_day_of row.shown)) row.price (sym c.is_charged.ensures ∙ w.if-is_charged.false) (w.total-is ∙ before_it)
    ] in
    λ before are a d n.
    ap (λ o. unwrap_or o 0) (c.in_ok-insert.ensures.updates.0 (a, d, n))
    ∙ ap (λ day. unwrap_or (cond (is_same_day (row.account, row.campaign, day) (a, d, n)) (Some c.if-is_charged.total) (get is_same_day c.args.self.now.totals (a, d, n))) 0) c.day_of.ensures
    ∙ unwrap_cond (is_same_day (row.account, row.campaign, the_day_of row.shown) (a, d, n)) c.if-is_charged.total (get is_same_day c.args.self.now.totals (a, d, n))
    ∙ total_put moment c.if-is_charged.total row before old are total a d n
