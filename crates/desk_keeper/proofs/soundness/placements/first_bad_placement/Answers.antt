use Rattle.std.proofs.Common.{◌≡◌, ◌++◌, ◌∷◌, [], Some, get_or, take, refl, sym, ap, subst, ◌∙◌, arith}
use Rattle.std.proofs.lemmas.List.{take_more}
use Rattle.desk_types.specs.declared.rows.Fate.TheVariants.{Open}
use Rattle.desk_types.specs.declared.rows.Placement.{Placement}
use Rattle.desk_types.specs.Day.{day_of}
use Rattle.desk_types.specs.Keys.{budget_key}
use Rattle.desk_types.specs.Money.{budget_in}
use Rattle.desk_types.specs.Opening.{latest}
use Rattle.desk_types.specs.Rules.{first_bad, placement_rules}
use Rattle.desk_types.specs.Sound.{AreInOrder}
use Rattle.desk_keeper.specs.DayTotals.{AreTotals, charged}
use Rattle.desk_keeper.proofs.FirstBad.{bad_at, kept_more}
use Rattle.desk_keeper.proofs.PlacementRules.{breaks_budget, breaks_first, breaks_none, budgets_in_order, charged_within, is_paid, not_paid, price_within}
use Rattle.desk_keeper.proofs.soundness.placements.first_bad_placement.Goals as goal

abbrev none : Placement
none = record { number = 0; account = 0; campaign = 0; line = 0; place = 0; bid = 0; price = 0; shown = 0; deadline = 0; fate = Open }

pub loop-i-init : goal.loop-i-init
unfolding first_bad
loop-i-init c = (refl, c.new-charges.ensures.totals, c.new-charges.ensures.moment ∙ c.latest.ensures)

pub returns-in-Some : goal.returns-in-Some
returns-in-Some c =
    let T = c.args.tables.now in
    let rules = placement_rules T in
    let rows = c.as_slice-rows.result.now in
    let row = get_or rows c.loop-i.i none in
    sym (ap (first_bad 6 rules []) (sym c.as_slice-rows.ensures)
    ∙ bad_at 6 rules rows c.loop-i.i row none c.in-Some.rule c.loop-i-test.true refl c.loop-i.invariant.0 (breaks_first T (take c.loop-i.i rows) row c.in-Some.rule (sym c.broken_rule.ensures ∙ c.in-Some.is))
    ∙ ap Some (sym c.bad_row.ensures))

pub add-requires : goal.add-requires
add-requires c =
    let T = c.args.tables.now in
    let rows = c.as_slice-rows.result.now in
    let before = take c.loop-i.i rows in
    let row = get_or rows c.loop-i.i none in
    record {
      fits = omega (
        arith,
        c.loop-i.invariant.1 row.account row.campaign (day_of row.shown),
        ap (λ m. charged row.account row.campaign (day_of row.shown) m before) c.loop-i.invariant.2,
        charged_within T before c.requires.budgets c.loop-i.invariant.0 row.account row.campaign (day_of row.shown),
        price_within T before row (sym c.broken_rule.ensures ∙ c.in_default.is),
      );
    }

pub budget_on-requires : goal.budget_on-requires
budget_on-requires c = record {
  in_order = subst (AreInOrder budget_key) (sym c.as_slice.ensures) (budgets_in_order c.args.tables.now c.args.tables.now.budgets c.requires.budgets);
}

pub returns-then-total-budget_on : goal.returns-then-total-budget_on
returns-then-total-budget_on c =
    let T = c.args.tables.now in
    let rules = placement_rules T in
    let rows = c.as_slice-rows.result.now in
    let before = take c.loop-i.i rows in
    let row = get_or rows c.loop-i.i none in
    let total : c.in_ok-total.total ≡ charged row.account row.campaign (day_of row.shown) (latest T) (before ++ row ∷ []) =
    c.in_ok-total.ensures.total ∙ c.in_ok-total.ensures.totals before c.loop-i.invariant.1 row.account row.campaign (day_of row.shown)
    ∙ ap (λ m. charged row.account row.campaign (day_of row.shown) m (before ++ row ∷ [])) (c.in_ok-total.ensures.moment ∙ c.loop-i.invariant.2) in
    let amount : c.budget_on.result ≡ budget_in T.budgets row.account row.campaign (day_of row.shown) =
    c.budget_on.ensures ∙ (λ i. budget_in (c.as_slice.ensures i) row.account row.campaign (c.day_of-day.ensures i)) in
    sym (ap (first_bad 6 rules []) (sym c.as_slice-rows.ensures)
    ∙ bad_at 6 rules rows c.loop-i.i row none 9 c.loop-i-test.true refl c.loop-i.invariant.0
    (breaks_budget T before row (sym c.broken_rule.ensures ∙ c.in_default.is) (not_paid T before row c.in_ok-total.total c.budget_on.result total amount c.if-total-budget_on.true))
    ∙ ap Some (sym c.bad_row-then-total-budget_on.ensures))

pub loop-i-preserved : goal.loop-i-preserved
loop-i-preserved c =
    let T = c.args.tables.now in
    let rows = c.as_slice-rows.result.now in
    let before = take c.loop-i.i rows in
    let row = get_or rows c.loop-i.i none in
    let more : AreTotals c.add.new.self (before ++ row ∷ []) = c.in_ok-total.ensures.totals before c.loop-i.invariant.1 in
    let moment : c.add.new.self.moment ≡ latest T = c.in_ok-total.ensures.moment ∙ c.loop-i.invariant.2 in
    let total : c.in_ok-total.total ≡ charged row.account row.campaign (day_of row.shown) (latest T) (before ++ row ∷ []) =
    c.in_ok-total.ensures.total ∙ more row.account row.campaign (day_of row.shown) ∙ ap (λ m. charged row.account row.campaign (day_of row.shown) m (before ++ row ∷ [])) moment in
    let amount : c.budget_on.result ≡ budget_in T.budgets row.account row.campaign (day_of row.shown) =
    c.budget_on.ensures ∙ (λ i. budget_in (c.as_slice.ensures i) row.account row.campaign (c.day_of-day.ensures i)) in (
      kept_more 6 (placement_rules T) rows c.loop-i.i row none c.loop-i-test.true refl c.loop-i.invariant.0
          (breaks_none T before row (sym c.broken_rule.ensures ∙ c.in_default.is) (is_paid T before row c.in_ok-total.total c.budget_on.result total amount c.if-total-budget_on.false)),
      subst (AreTotals c.add.new.self) (sym (take_more rows c.loop-i.i none c.loop-i-test.true)) more,
      moment,
    )
