-- What an account has on a day, by its rows alone.
use Rattle.std.proofs.Common.{◌≡◌, ℕ, ◌+◌, ◌-◌, Bool, true, not, ◌==◌, ◌&&◌, List, find, filter, map, take, option_map, unwrap_or, ap, subst, ◌∙◌}
use Rattle.std.specs.Prelude.{nat_le, nat_lt}
use Rattle.std.specs.List.{sum_by}
use Rattle.std.proofs.lemmas.Bool.{eqb-true}
use Rattle.desk_types.specs.declared.limits.TheConstants.{STATEMENT_MAX}
use Rattle.desk_types.specs.declared.rows.BudgetSet.{BudgetSet}
use Rattle.desk_types.specs.declared.rows.Campaign.{Campaign}
use Rattle.desk_types.specs.declared.rows.Placement.{Placement}
use Rattle.desk_types.specs.Day.{day_of}
use Rattle.desk_types.specs.Money.{budget, escrowed, is_escrowed, is_latest, is_set_by, is_shown_on, is_spent, spent, used}
use Rattle.desk_types.specs.Reports.{campaign_day, clicks, credited, day_report, is_credited, is_stated, shown, shown_row, statement}
use Rattle.desk_types.specs.State.{State}
use Rattle.own_rows.specs.OwnReply.{own, state_of_own}
use Rattle.own_rows.proofs.ReadAlone.{part_of}
use Rattle.own_rows.proofs.Within.{IsWithin, any-within, count-within, filter-within, find-within, itself, map-within}

-- the state of the account's rows
abbrev pub alone : State → ℕ → State
alone S k = state_of_own (own S k)

abbrev pub is_of : ℕ → Placement → Bool
is_of k p = p.account == k

-- a test of the account's placements shown on a day, and something more
shown_within : (k campaign day : ℕ) (test : Placement → Bool) → IsWithin (is_of k) (λ p. is_shown_on k campaign day p && test p)
shown_within k campaign day test = record { fails = λ p h. ap (λ b. (b && (p.campaign == campaign && day_of p.shown == day)) && test p) h }

pub spent_own : (S : State) (k campaign day : ℕ) → spent (alone S k) k campaign day ≡ spent S k campaign day
unfolding spent
spent_own S k campaign day =
    ap (sum_by (λ (p : Placement). p.price)) (filter-within (is_of k) (λ p. is_shown_on k campaign day p && is_spent p.fate) S.tables.placements (shown_within k campaign day (λ p. is_spent p.fate)))

pub escrowed_own : (S : State) (k campaign day : ℕ) → escrowed (alone S k) k campaign day ≡ escrowed S k campaign day
unfolding escrowed
escrowed_own S k campaign day =
    ap (sum_by (λ (p : Placement). p.price))
    (filter-within (is_of k) (λ p. is_shown_on k campaign day p && is_escrowed S.moment p) S.tables.placements (shown_within k campaign day (is_escrowed S.moment)))

pub used_own : (S : State) (k campaign day : ℕ) → used (alone S k) k campaign day ≡ used S k campaign day
used_own S k campaign day = λ i. spent_own S k campaign day i + escrowed_own S k campaign day i

abbrev is_set_of : ℕ → BudgetSet → Bool
is_set_of k b = b.account == k

set_within : (k campaign day : ℕ) (test : BudgetSet → Bool) → IsWithin (is_set_of k) (λ b. is_set_by k campaign day b && test b)
set_within k campaign day test = record { fails = λ b h. ap (λ t. (t && (b.campaign == campaign && nat_le (day_of b.at) day)) && test b) h }

latest_own : (k campaign day : ℕ) (bs : List BudgetSet) (b : BudgetSet) → is_latest (filter (is_set_of k) bs) k campaign day b ≡ is_latest bs k campaign day b
latest_own k campaign day bs b =
    let later = λ (other : BudgetSet). nat_lt (day_of b.at) (day_of other.at) in
    ap not (any-within (is_set_of k) (λ other. is_set_by k campaign day other && later other) bs (set_within k campaign day later))

pub budget_own : (S : State) (k campaign day : ℕ) → budget (alone S k) k campaign day ≡ budget S k campaign day
unfolding budget
budget_own S k campaign day =
    let bs = S.tables.budgets in
    ap (λ found. unwrap_or (option_map (λ (b : BudgetSet). b.amount) found) 0)
    ((λ i. find (λ b. is_set_by k campaign day b && latest_own k campaign day bs b i) (filter (is_set_of k) bs))
    ∙ find-within (is_set_of k) (λ b. is_set_by k campaign day b && is_latest bs k campaign day b) bs (set_within k campaign day (is_latest bs k campaign day)))

shown_own : (S : State) (k campaign day : ℕ) → shown (alone S k).tables k campaign day ≡ shown S.tables k campaign day
shown_own S k campaign day =
    count-within (is_of k) (is_shown_on k campaign day) S.tables.placements (part_of (is_of k) (λ p. p.campaign == campaign && day_of p.shown == day))

clicks_own : (S : State) (k campaign day : ℕ) → clicks (alone S k).tables k campaign day ≡ clicks S.tables k campaign day
clicks_own S k campaign day =
    count-within (is_of k) (λ p. is_shown_on k campaign day p && is_spent p.fate) S.tables.placements (shown_within k campaign day (λ p. is_spent p.fate))

credited_own : (S : State) (k campaign day : ℕ) → credited (alone S k).tables k campaign day ≡ credited S.tables k campaign day
credited_own S k campaign day =
    ap (sum_by (λ (p : Placement). p.price))
    (filter-within (is_of k) (λ p. is_shown_on k campaign day p && is_credited p.fate) S.tables.placements (shown_within k campaign day (λ p. is_credited p.fate)))

day_alone : (S : State) (day : ℕ) (c : Campaign) → campaign_day (alone S c.account) day c ≡ campaign_day S day c
unfolding campaign_day
day_alone S day c =
    let k = c.account in
    let n = c.number in
    λ i. record {
      campaign = n;
      budget = budget_own S k n day i;
      shown = shown_own S k n day i;
      clicks = clicks_own S k n day i;
      spent = spent_own S k n day i;
      escrowed = escrowed_own S k n day i;
      free = budget_own S k n day i - used_own S k n day i;
      credited = credited_own S k n day i;
    }

day_own : (S : State) (k day : ℕ) (c : Campaign) → (c.account == k) ≡ true → campaign_day (alone S k) day c ≡ campaign_day S day c
day_own S k day c h = subst (λ m. campaign_day (alone S m) day c ≡ campaign_day S day c) (eqb-true c.account k h) (day_alone S day c)

pub report_own : (S : State) (k day : ℕ) → day_report (alone S k) k day ≡ day_report S k day
report_own S k day =
    let mine = λ (c : Campaign). c.account == k in
    ap (λ rows. record { day = day; rows = rows })
    (ap (map (campaign_day (alone S k) day)) (filter-within mine mine S.tables.campaigns (itself mine))
    ∙ map-within mine (campaign_day (alone S k) day) (campaign_day S day) S.tables.campaigns (day_own S k day))

pub statement_own : (S : State) (k day from : ℕ) → statement (alone S k) k day from ≡ statement S k day from
statement_own S k day from =
    ap (λ ps. map (shown_row S.moment) (take STATEMENT_MAX ps))
    (filter-within (is_of k) (is_stated k day from) S.tables.placements (part_of (is_of k) (λ p. day_of p.shown == day && nat_le from p.number)))
