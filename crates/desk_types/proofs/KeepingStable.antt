-- What is kept of the rows of a state has what stays of them.
use Rattle.std.proofs.Common.{◌≡◌, ℕ, ◌≤◌, Bool, true, false, ◌==◌, ◌&&◌, ◌||◌, inl, inr, List, [], ◌∷◌, find, map, Some, is_some, refl, sym, ap, ◌∙◌, arith}
use Rattle.std.specs.Prelude.{nat_le}
use Rattle.std.specs.List.{All, list_any}
use Rattle.std.proofs.lemmas.Bool.{cases_Bool, cond-true, cond-false, and_parts}
use Rattle.std.proofs.lemmas.Bool.Decides.{nat_tests}
use Rattle.std.proofs.lemmas.List.Elements.{All-weaker}
use Rattle.auction_types.specs.declared.limits.TheConstants.{BID_MIN, BID_MAX, QUALITY_MIN, QUALITY_MAX}
use Rattle.desk_types.specs.declared.limits.TheConstants.{BUDGET_MAX, BUDGET_MIN, MOMENT_MAX}
use Rattle.desk_types.specs.declared.rows.BudgetSet.{BudgetSet}
use Rattle.desk_types.specs.declared.rows.Line.{Line}
use Rattle.desk_types.specs.declared.rows.Placement.{Placement}
use Rattle.auction_types.specs.AdValue.{IsInRange}
use Rattle.desk_types.specs.Eligible.{ad_of}
use Rattle.desk_types.specs.Fields.{is_headline, is_link}
use Rattle.desk_types.specs.Judged.{is_within}
use Rattle.desk_types.specs.Money.{budget}
use Rattle.desk_types.specs.Opening.{greatest, latest, opened, placement_moment}
use Rattle.desk_types.specs.Rules.{has_account, has_campaign, has_line_of, is_good_budget, is_good_line}
use Rattle.desk_types.specs.Sound.{StaysWithinBudgets}
use Rattle.desk_types.specs.State.{State}
use Rattle.desk_types.specs.Tables.{campaign_of, line_of}
use Rattle.desk_types.proofs.Costs.{cost, cost-later, sum_by-less, used-costs}
use Rattle.desk_types.proofs.EachRow.{All-from_Each, Each}
use Rattle.desk_types.proofs.Kept.{IsAlmostKept}
use Rattle.desk_types.proofs.Lawful.{used_within, within_used}
use Rattle.desk_types.proofs.Stable.{IsStable}

-- a bound on the greatest number of rows is one on that of each
pub each_up_to : {A : Type 0} (number : A → ℕ) (rows : List A) (moment : ℕ) → greatest (map number rows) ≤ moment → Each (λ (x : A). number x ≤ moment) rows
each_up_to number [] moment h = tt
each_up_to number (r ∷ rows) moment h = (omega (arith, h), each_up_to number rows moment (omega (arith, h)))

pub up_to_each : {A : Type 0} (number : A → ℕ) (rows : List A) (moment : ℕ) → Each (λ (x : A). number x ≤ moment) rows → greatest (map number rows) ≤ moment
up_to_each number [] moment h = omega arith
up_to_each number (r ∷ rows) moment h = omega (arith, h.0, up_to_each number rows moment h.1)

pub all_up_to : {A : Type 0} (number : A → ℕ) (rows : List A) (moment : ℕ) → greatest (map number rows) ≤ moment → All (λ (x : A). number x ≤ moment) rows
all_up_to {A} number rows moment h = All-from_Each (λ (x : A). number x ≤ moment) rows (each_up_to number rows moment h)

pub budgets_past : (S : State) → latest S.tables ≤ S.moment → All (λ (b : BudgetSet). b.at ≤ S.moment) S.tables.budgets
unfolding latest
budgets_past S h = all_up_to (λ (b : BudgetSet). b.at) S.tables.budgets S.moment (omega (arith, h))

pub placements_past : (S : State) → latest S.tables ≤ S.moment → All (λ (p : Placement). placement_moment p ≤ S.moment) S.tables.placements
unfolding latest
placements_past S h = all_up_to placement_moment S.tables.placements S.moment (omega (arith, h))

line_in_range : (l : Line) → is_good_line l ≡ true → IsInRange (ad_of l)
line_in_range l h =
    let after_headline = (and_parts (is_headline l.headline) _ h).1 in
    let after_link = (and_parts (is_link l.link) _ after_headline).1 in
    let parts = and_parts (is_within BID_MIN BID_MAX l.bid) (is_within QUALITY_MIN QUALITY_MAX l.quality) after_link in
    ((grind (arith, nat_tests, parts.0), grind (arith, nat_tests, parts.0)), (grind (arith, nat_tests, parts.1), grind (arith, nat_tests, parts.1)))

amount_within : (b : BudgetSet) → is_good_budget b ≡ true → b.amount ≤ BUDGET_MAX
amount_within b h =
    let part = (and_parts (is_within BUDGET_MIN BUDGET_MAX b.amount) (nat_le b.at MOMENT_MAX) h).0 in
    grind (arith, nat_tests, part)

fails_further : (a b c : Bool) → (a && b) ≡ false → (a && (b && c)) ≡ false
fails_further false b c h = refl
fails_further true false c h = refl
fails_further true true c h = absurd cc

-- a line that is there by account, number and campaign is there by account and number
line_there : (account number campaign : ℕ) (ls : List Line) → list_any (λ (l : Line). l.account == account && (l.number == number && l.campaign == campaign)) ls ≡ true
    → is_some (find (λ (l : Line). l.account == account && l.number == number) ls) ≡ true
line_there account number campaign [] h = absurd cc
line_there account number campaign (l ∷ ls) h =
    elim (cases_Bool (l.account == account && l.number == number)) [
      | inl t ↦ ap is_some (cond-true _ (Some l) (find (λ (k : Line). k.account == account && k.number == number) ls) t)
      | inr t ↦
          ap is_some (cond-false _ (Some l) (find (λ (k : Line). k.account == account && k.number == number) ls) t)
          ∙ line_there account number campaign ls (sym (ap (λ b. b || list_any (λ (k : Line). k.account == account && (k.number == number && k.campaign == campaign)) ls) (fails_further (l.account == account) (l.number == number) (l.campaign == campaign) t)) ∙ h)
    ]

-- budgets that held at the last moment that the rows tell hold from then on
within_later : (S : State) → latest S.tables ≤ S.moment → StaysWithinBudgets (opened S.settings S.tables) → StaysWithinBudgets S
unfolding budget
within_later S past h =
    let T = opened S.settings S.tables in
    used_within S (λ a c d.
    omega (arith, within_used T h a c d, used-costs T a c d, used-costs S a c d, sum_by-less (cost a c d S.moment) (cost a c d T.moment) S.tables.placements (λ p. cost-later a c d T.moment S.moment p past)))

pub stable_of : (S : State) → IsAlmostKept S → IsStable S
stable_of S h = record {
  moment = h.moment;
  in_order = h.in_order;
  numbered = h.numbered;
  in_range = All-weaker (λ (l : Line). is_good_line l ≡ true) (λ (l : Line). IsInRange (ad_of l)) line_in_range S.tables.lines h.fields.lines;
  within_limits = record {
    accounts = h.limits.accounts;
    campaigns = h.limits.campaigns;
    budgets = All-weaker (λ (b : BudgetSet). is_good_budget b ≡ true) (λ (b : BudgetSet). b.amount ≤ BUDGET_MAX) amount_within S.tables.budgets h.fields.budgets;
  };
  past = record {
    budgets = budgets_past S h.past;
    placements = All-weaker (λ (p : Placement). placement_moment p ≤ S.moment) (λ (p : Placement). p.shown ≤ S.moment) (λ p k. omega (arith, k)) S.tables.placements (placements_past S h.past);
  };
  named = record {
    budgets = All-weaker (λ (b : BudgetSet). has_campaign S.tables b.account b.campaign ≡ true) (λ (b : BudgetSet). is_some (campaign_of S.tables b.account b.campaign) ≡ true)
        (λ b k. (and_parts (has_account S.tables b.account) (is_some (campaign_of S.tables b.account b.campaign)) k).1) S.tables.budgets h.named.budgets;
    placements = All-weaker (λ (p : Placement). (has_campaign S.tables p.account p.campaign && has_line_of S.tables p) ≡ true) (λ (p : Placement). is_some (line_of S.tables p.account p.line) ≡ true)
        (λ p k. line_there p.account p.line p.campaign S.tables.lines (and_parts (has_campaign S.tables p.account p.campaign) (has_line_of S.tables p) k).1) S.tables.placements h.named.placements;
  };
  within_budgets = within_later S h.past h.paid;
}
