-- The numbers of reports are bounded: by the greatest budget, and by the number of placements.
use Rattle.std.proofs.Common.{◌≡◌, ℕ, ◌+◌, ◌*◌, ◌≤◌, Bool, true, false, ◌==◌, ◌&&◌, cond, inl, inr, List, [], ◌∷◌, filter, find, length, map, flat_map, Option, None, Some, option_map, unwrap_or, refl, ap, ◌∙◌, arith}
use Rattle.std.specs.List.{All, count_by, range_with_len, sum_by}
use Rattle.std.proofs.lemmas.Bool.{cases_Bool, cond-true, cond-false, and_parts, eqb-true}
use Rattle.std.proofs.lemmas.Bool.Decides.{nat_tests}
use Rattle.std.proofs.lemmas.List.Concat.{length-flat_map}
use Rattle.std.proofs.lemmas.List.FromFn.{length-range_with_len}
use Rattle.std.proofs.lemmas.List.Sums.{count_by-le-length, sum_by-cons, sum_by-le, sum_by-le-sum_by}
use Rattle.desk_types.specs.declared.limits.TheConstants.{ACCOUNTS_MAX, BUDGET_MAX, CAMPAIGNS_MAX}
use Rattle.desk_types.specs.declared.reply.CampaignDay.{CampaignDay}
use Rattle.desk_types.specs.declared.reply.HostDay.{HostDay}
use Rattle.desk_types.specs.declared.rows.BudgetSet.{BudgetSet}
use Rattle.desk_types.specs.declared.rows.Campaign.{Campaign}
use Rattle.desk_types.specs.declared.rows.Fate.{Fate}
use Rattle.desk_types.specs.declared.rows.Fate.TheVariants.{Open, Settled, Credited}
use Rattle.desk_types.specs.declared.rows.Placement.{Placement}
use Rattle.desk_types.specs.Day.{day_of}
use Rattle.desk_types.specs.Keys.{campaign_key, is_less_key}
use Rattle.desk_types.specs.Money.{budget, is_latest, is_set_by, is_shown_on, is_spent, spent}
use Rattle.desk_types.specs.Reports.{campaign_day, clicks, credited, host_day, is_credited, shown}
use Rattle.desk_types.specs.State.{State}
use Rattle.desk_types.proofs.Costs.{sum_by-filter}
use Rattle.desk_types.proofs.EachRow.{Each}
use Rattle.desk_types.proofs.InOrder.{Ordered-from}
use Rattle.desk_types.proofs.Lawful.{found_all, within_used}
use Rattle.desk_types.proofs.Numbering.{length_kept}
use Rattle.desk_types.proofs.Puts.{Ordered}
use Rattle.desk_types.proofs.Stable.{IsStable}

-- a budget is at most the greatest
amount_bound : (test : BudgetSet → Bool) (bs : List BudgetSet) (found : Option BudgetSet) → find test bs ≡ found → All (λ b. b.amount ≤ BUDGET_MAX) bs → unwrap_or (option_map (λ b. b.amount) found) 0 ≤ BUDGET_MAX
amount_bound test bs None is within = omega arith
amount_bound test bs (Some b) is within = (found_all (λ (b : BudgetSet). b.amount ≤ BUDGET_MAX) test bs b within is).0

pub budget_bound : (S : State) (a c d : ℕ) → IsStable S → budget S a c d ≤ BUDGET_MAX
unfolding budget
budget_bound S a c d h = amount_bound (λ b. is_set_by a c d b && is_latest S.tables.budgets a c d b) S.tables.budgets _ refl h.within_limits.budgets

-- what is credited is spent
credit_part : (here : Bool) (fate : Fate) (price : ℕ) → cond (here && is_credited fate) price 0 ≤ cond (here && is_spent fate) price 0
credit_part false fate price = omega arith
credit_part true Open price = omega arith
credit_part true (Settled at) price = omega arith
credit_part true (Credited settled at) price = omega arith

credited_spent : (S : State) (a c d : ℕ) → credited S.tables a c d ≤ spent S a c d
unfolding spent
credited_spent S a c d =
    let ps = S.tables.placements in
    let less = sum_by-le-sum_by (λ (p : Placement). cond (is_shown_on a c d p && is_credited p.fate) p.price 0) (λ (p : Placement). cond (is_shown_on a c d p && is_spent p.fate) p.price 0) ps
    (λ p. credit_part (is_shown_on a c d p) p.fate p.price) in
    omega (arith, less, sum_by-filter (λ p. is_shown_on a c d p && is_credited p.fate) (λ p. p.price) ps, sum_by-filter (λ p. is_shown_on a c d p && is_spent p.fate) (λ p. p.price) ps)

-- the numbers of a campaign on a day
pub record IsBounded (count : ℕ) (r : CampaignDay) : Type 0 where
  pub budget : r.budget ≤ BUDGET_MAX
  pub shown : r.shown ≤ count
  pub clicks : r.clicks ≤ count
  pub spent : r.spent ≤ BUDGET_MAX
  pub escrowed : r.escrowed ≤ BUDGET_MAX
  pub used : r.spent + r.escrowed ≤ r.budget
  pub credited : r.credited ≤ BUDGET_MAX

pub campaign_bounded : (S : State) (day : ℕ) (c : Campaign) → IsStable S → IsBounded (length S.tables.placements) (campaign_day S day c)
unfolding campaign_day
campaign_bounded S day c h =
    let top = budget_bound S c.account c.number day h in
    let within = within_used S h.within_budgets c.account c.number day in
    record {
      budget = top;
      shown = count_by-le-length (is_shown_on c.account c.number day) S.tables.placements;
      clicks = count_by-le-length (λ p. is_shown_on c.account c.number day p && is_spent p.fate) S.tables.placements;
      spent = omega (arith, top, within);
      escrowed = omega (arith, top, within);
      used = within;
      credited = omega (arith, top, within, credited_spent S c.account c.number day);
    }

-- a placement is of one campaign at most, where their keys are in order
shown_by : (a c d pa pc pd : ℕ) → (pa == a && (pc == c && pd == d)) ≡ true → (pa ≡ a) × (pc ≡ c)
shown_by a c d pa pc pd h =
    let first = and_parts (pa == a) (pc == c && pd == d) h in
    (eqb-true pa a first.0, eqb-true pc c (and_parts (pc == c) (pd == d) first.1).0)

not_behind : (a c xa xc d pa pc pd : ℕ) → is_less_key (a ∷ c ∷ []) (xa ∷ xc ∷ []) ≡ true → (pa == a && (pc == c && pd == d)) ≡ true → (pa == xa && (pc == xc && pd == d)) ≡ false
not_behind a c xa xc d pa pc pd less h = grind (arith, nat_tests)

none_of_others : (day : ℕ) (p : Placement) (c : Campaign) (cs : List Campaign) → Each (λ x. is_less_key (campaign_key c) (campaign_key x) ≡ true) cs → is_shown_on c.account c.number day p ≡ true
    → count_by (λ (x : Campaign). is_shown_on x.account x.number day p) cs ≡ 0
none_of_others day p c [] order is = refl
none_of_others day p c (x ∷ cs) order is =
    let other = not_behind c.account c.number x.account x.number day p.account p.campaign (day_of p.shown) order.0 is in
    omega (arith, sum_by-cons (λ (y : Campaign). cond (is_shown_on y.account y.number day p) 1 0) x cs, cond-false {A = ℕ} (is_shown_on x.account x.number day p) 1 0 other, none_of_others day p c cs order.1 is)

one_at_most : (day : ℕ) (p : Placement) (cs : List Campaign) → Ordered campaign_key cs → count_by (λ (x : Campaign). is_shown_on x.account x.number day p) cs ≤ 1
one_at_most day p [] order = omega arith
one_at_most day p (c ∷ cs) order =
    let sum = sum_by-cons (λ (y : Campaign). cond (is_shown_on y.account y.number day p) 1 0) c cs in
    elim (cases_Bool (is_shown_on c.account c.number day p)) [
      | inl t ↦ omega (arith, sum, cond-true {A = ℕ} (is_shown_on c.account c.number day p) 1 0 t, none_of_others day p c cs order.0 t)
      | inr t ↦ omega (arith, sum, cond-false {A = ℕ} (is_shown_on c.account c.number day p) 1 0 t, one_at_most day p cs order.1)
    ]

-- counts of campaigns, placement by placement
counts_cons : (day : ℕ) (p : Placement) (ps : List Placement) (cs : List Campaign)
    → sum_by (λ (c : Campaign). count_by (is_shown_on c.account c.number day) (p ∷ ps)) cs
    ≡ count_by (λ (c : Campaign). is_shown_on c.account c.number day p) cs + sum_by (λ (c : Campaign). count_by (is_shown_on c.account c.number day) ps) cs
counts_cons day p ps [] = refl
counts_cons day p ps (c ∷ cs) =
    omega (
      arith,
      counts_cons day p ps cs,
      sum_by-cons (λ (x : Campaign). count_by (is_shown_on x.account x.number day) (p ∷ ps)) c cs,
      sum_by-cons (λ (x : Campaign). count_by (is_shown_on x.account x.number day) ps) c cs,
      sum_by-cons (λ (x : Campaign). cond (is_shown_on x.account x.number day p) 1 0) c cs,
      sum_by-cons (λ (q : Placement). cond (is_shown_on c.account c.number day q) 1 0) p ps,
    )

no_counts : (day : ℕ) (cs : List Campaign) → sum_by (λ (c : Campaign). count_by (is_shown_on c.account c.number day) []) cs ≡ 0
no_counts day [] = refl
no_counts day (c ∷ cs) = omega (arith, no_counts day cs, sum_by-cons (λ (x : Campaign). count_by (is_shown_on x.account x.number day) []) c cs)

counts_bound : (day : ℕ) (ps : List Placement) (cs : List Campaign) → Ordered campaign_key cs → sum_by (λ (c : Campaign). count_by (is_shown_on c.account c.number day) ps) cs ≤ length ps
counts_bound day [] cs order = omega (arith, no_counts day cs)
counts_bound day (p ∷ ps) cs order = omega (arith, counts_cons day p ps cs, one_at_most day p cs order, counts_bound day ps cs order)

-- what is clicked is shown
click_part : (here clicked : Bool) → cond (here && clicked) 1 0 ≤ cond here 1 0
click_part true true = omega arith
click_part true false = omega arith
click_part false clicked = omega arith

clicks_shown : (T : State) (a c d : ℕ) → clicks T.tables a c d ≤ shown T.tables a c d
clicks_shown T a c d =
    sum_by-le-sum_by (λ (p : Placement). cond (is_shown_on a c d p && is_spent p.fate) 1 0) (λ (p : Placement). cond (is_shown_on a c d p) 1 0) T.tables.placements (λ p. click_part (is_shown_on a c d p) (is_spent p.fate))

-- the sums over rows are those over the campaigns
sum_map : (f : CampaignDay → ℕ) (row : Campaign → CampaignDay) (cs : List Campaign) → sum_by f (map row cs) ≡ sum_by (λ c. f (row c)) cs
sum_map f row [] = refl
sum_map f row (c ∷ cs) = omega (arith, sum_map f row cs, sum_by-cons f (row c) (map row cs), sum_by-cons (λ x. f (row x)) c cs)

-- the campaigns are those of the accounts
campaign_count : (S : State) → IsStable S → S.tables.campaigns ≡ flat_map (λ account. filter (λ (c : Campaign). c.account == account) S.tables.campaigns) (range_with_len 1 (length S.tables.accounts))
    → length S.tables.campaigns ≤ ACCOUNTS_MAX * CAMPAIGNS_MAX
campaign_count S h is =
    let own : ℕ → List Campaign = λ account. filter (λ (c : Campaign). c.account == account) S.tables.campaigns in
    let accounts = range_with_len 1 (length S.tables.accounts) in
    let whole : length S.tables.campaigns ≡ sum_by (λ account. length (own account)) accounts = ap length is ∙ length-flat_map own accounts in
    let each : sum_by (λ account. length (own account)) accounts ≤ sum_by (λ (account : ℕ). CAMPAIGNS_MAX) accounts =
    sum_by-le-sum_by (λ account. length (own account)) (λ account. CAMPAIGNS_MAX) accounts (λ account. omega (arith, length_kept (λ (c : Campaign). c.account == account) S.tables.campaigns, h.within_limits.campaigns account)) in
    let top = sum_by-le (λ (account : ℕ). CAMPAIGNS_MAX) CAMPAIGNS_MAX accounts (λ i d within. omega arith) in
    let many : length accounts ≡ length S.tables.accounts = length-range_with_len 1 (length S.tables.accounts) in
    omega (arith, whole, each, top, many, h.within_limits.accounts)

money_bound : (S : State) (f : CampaignDay → ℕ) (day : ℕ) → ((c : Campaign) → f (campaign_day S day c) ≤ BUDGET_MAX) → length S.tables.campaigns ≤ ACCOUNTS_MAX * CAMPAIGNS_MAX
    → sum_by f (map (campaign_day S day) S.tables.campaigns) ≤ ACCOUNTS_MAX * CAMPAIGNS_MAX * BUDGET_MAX
money_bound S f day each few =
    let cs = S.tables.campaigns in
    let top = sum_by-le (λ c. f (campaign_day S day c)) BUDGET_MAX cs (λ i d within. each _) in
    omega (arith, sum_map f (campaign_day S day) cs, top, few)

-- the host's numbers of a day
pub record IsHostBounded (count : ℕ) (r : HostDay) : Type 0 where
  pub shown : r.shown ≤ count
  pub clicks : r.clicks ≤ count
  pub spent : r.spent ≤ ACCOUNTS_MAX * CAMPAIGNS_MAX * BUDGET_MAX
  pub escrowed : r.escrowed ≤ ACCOUNTS_MAX * CAMPAIGNS_MAX * BUDGET_MAX
  pub credited : r.credited ≤ ACCOUNTS_MAX * CAMPAIGNS_MAX * BUDGET_MAX

pub host_bounded : (S : State) (day : ℕ) → IsStable S → S.tables.campaigns ≡ flat_map (λ account. filter (λ (c : Campaign). c.account == account) S.tables.campaigns) (range_with_len 1 (length S.tables.accounts))
    → IsHostBounded (length S.tables.placements) (host_day S day)
unfolding campaign_day
host_bounded S day h is =
    let cs = S.tables.campaigns in
    let few = campaign_count S h is in
    let order = Ordered-from campaign_key cs h.in_order.campaigns in
    let counts = counts_bound day S.tables.placements cs order in
    let fewer = sum_by-le-sum_by (λ (c : Campaign). clicks S.tables c.account c.number day) (λ (c : Campaign). shown S.tables c.account c.number day) cs (λ c. clicks_shown S c.account c.number day) in
    record {
      shown = omega (arith, sum_map (λ r. r.shown) (campaign_day S day) cs, counts);
      clicks = omega (arith, sum_map (λ r. r.clicks) (campaign_day S day) cs, fewer, counts);
      spent = money_bound S (λ r. r.spent) day (λ c. (campaign_bounded S day c h).spent) few;
      escrowed = money_bound S (λ r. r.escrowed) day (λ c. (campaign_bounded S day c h).escrowed) few;
      credited = money_bound S (λ r. r.credited) day (λ c. (campaign_bounded S day c h).credited) few;
    }
