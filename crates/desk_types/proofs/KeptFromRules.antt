-- What sound tables keep.
use Rattle.std.proofs.Common.{◌≡◌, ℕ, ◌+◌, ◌≤◌, max, Bool, true, ◌==◌, ◌&&◌, List, [], ◌∷◌, map, arith}
use Rattle.std.specs.Prelude.{nat_le}
use Rattle.std.proofs.lemmas.Bool.{and_parts, eqb-true}
use Rattle.std.proofs.lemmas.Bool.Decides.{nat_tests}
use Rattle.auction_types.specs.declared.limits.TheConstants.{BID_MIN, BID_MAX, PLACES_MAX}
use Rattle.desk_types.specs.declared.limits.TheConstants.{ACCOUNTS_MAX, BUDGET_MAX, BUDGET_MIN, CAMPAIGNS_MAX, CLICK_WINDOW, LINES_MAX, MOMENT_MAX, NEGATIVES_MAX}
use Rattle.desk_types.specs.declared.rows.BudgetSet.{BudgetSet}
use Rattle.desk_types.specs.declared.rows.Fate.{Fate}
use Rattle.desk_types.specs.declared.rows.Fate.TheVariants.{Open, Settled, Credited}
use Rattle.desk_types.specs.declared.rows.Line.{Line}
use Rattle.desk_types.specs.declared.rows.Negative.{Negative}
use Rattle.desk_types.specs.declared.rows.Placement.{Placement}
use Rattle.desk_types.specs.declared.tables.Tables.{Tables}
use Rattle.desk_types.specs.Judged.{is_line_like, is_within}
use Rattle.desk_types.specs.Keys.{account_key, batch_key, budget_key, campaign_key, is_less_key, line_key, negative_key, placement_key}
use Rattle.desk_types.specs.Opening.{fate_moment, greatest, latest, placement_moment}
use Rattle.desk_types.specs.Rules.{AreSound, account_rules, batch_rules, budget_rules, campaign_rules, is_good_budget, is_good_fate, is_good_placement, is_in_turn, is_in_window, is_negative_like, last_passes, line_rules, negative_rules, placement_rules}
use Rattle.desk_types.specs.Sound.{AreInOrder, AreNumbered, StandInOrder}
use Rattle.desk_types.specs.State.{State}
use Rattle.desk_types.proofs.Behind.{All-from_Behind, Behind, Behind-mono, CarriesOver, IsBehindLast, groups_fit, groups_run, numbers_run, pairs_climb, pairs_differ, rows_fit}
use Rattle.desk_types.proofs.EachRow.{Each, Each-mono}
use Rattle.desk_types.proofs.InOrder.{Each-from_All}
use Rattle.desk_types.proofs.Kept.{AreInTurn, FitLimits, HaveBudgets, HaveGoodFields, HaveNames, IsAlmostKept, IsKept, PatternsDiffer}
use Rattle.desk_types.proofs.PaidFor.{IsPaidFor, within_if_paid}
use Rattle.desk_types.proofs.Puts.{less-trans}
use Rattle.desk_types.proofs.RulesBroken.{RowsKeepRules, rows_keep}

-- rule 1
abbrev pub is_less_row : {A : Type 0} → (A → List ℕ) → A → A → Bool
is_less_row key row later = is_less_key (key row) (key later)

less_row-over : {A : Type 0} (key : A → List ℕ) → CarriesOver (is_less_row key)
less_row-over key x y z h k = less-trans (key x) (key y) (key z) h k

in_order : {A : Type 0} (key : A → List ℕ) (rows : List A) → Behind (IsBehindLast (is_less_row key)) [] rows → AreInOrder key rows
in_order key rows h = pairs_climb (is_less_row key) rows (less_row-over key) h

order_kept : (T : Tables) → RowsKeepRules T → StandInOrder T
unfolding account_rules campaign_rules budget_rules line_rules negative_rules placement_rules batch_rules
order_kept T h = record {
  accounts = in_order account_key T.accounts (Behind-mono _ _ [] T.accounts (λ b x k. k.0) h.accounts);
  campaigns = in_order campaign_key T.campaigns (Behind-mono _ _ [] T.campaigns (λ b x k. k.0) h.campaigns);
  budgets = in_order budget_key T.budgets (Behind-mono _ _ [] T.budgets (λ b x k. k.0) h.budgets);
  lines = in_order line_key T.lines (Behind-mono _ _ [] T.lines (λ b x k. k.0) h.lines);
  negatives = in_order negative_key T.negatives (Behind-mono _ _ [] T.negatives (λ b x k. k.0) h.negatives);
  placements = in_order placement_key T.placements (Behind-mono _ _ [] T.placements (λ b x k. k.0) h.placements);
  batches = in_order batch_key T.batches (Behind-mono _ _ [] T.batches (λ b x k. k.0) h.batches);
}

-- rule 2
fields_kept : (T : Tables) → RowsKeepRules T → HaveGoodFields T
unfolding account_rules budget_rules line_rules placement_rules batch_rules
fields_kept T h = record {
  accounts = All-from_Behind _ T.accounts (Behind-mono _ _ [] T.accounts (λ b x k. k.1.0) h.accounts);
  budgets = All-from_Behind _ T.budgets (Behind-mono _ _ [] T.budgets (λ b x k. k.1.0) h.budgets);
  lines = All-from_Behind _ T.lines (Behind-mono _ _ [] T.lines (λ b x k. k.1.0) h.lines);
  placements = All-from_Behind _ T.placements (Behind-mono _ _ [] T.placements (λ b x k. k.1.0) h.placements);
  batches = All-from_Behind _ T.batches (Behind-mono _ _ [] T.batches (λ b x k. k.1.0) h.batches);
}

-- rule 3
numbers_kept : (T : Tables) → RowsKeepRules T → AreNumbered T
unfolding account_rules campaign_rules line_rules negative_rules placement_rules
numbers_kept T h = record {
  accounts = numbers_run (λ a. a.number) T.accounts (Behind-mono _ _ [] T.accounts (λ b x k. k.1.1.0) h.accounts);
  campaigns = λ g. groups_run (λ c. c.account) (λ c. c.number) g T.campaigns (Behind-mono _ _ [] T.campaigns (λ b x k. k.1.0) h.campaigns);
  lines = λ g. groups_run (λ l. l.account) (λ l. l.number) g T.lines (Behind-mono _ _ [] T.lines (λ b x k. k.1.1.0) h.lines);
  negatives = λ g. groups_run (λ n. n.account) (λ n. n.number) g T.negatives (Behind-mono _ _ [] T.negatives (λ b x k. k.1.0) h.negatives);
  placements = numbers_run (λ p. p.number) T.placements (Behind-mono _ _ [] T.placements (λ b x k. k.1.1.0) h.placements);
}

-- rule 4
names_kept : (T : Tables) → RowsKeepRules T → HaveNames T
unfolding campaign_rules budget_rules line_rules negative_rules placement_rules batch_rules
names_kept T h = record {
  campaigns = All-from_Behind _ T.campaigns (Behind-mono _ _ [] T.campaigns (λ b x k. k.1.1.0) h.campaigns);
  budgets = All-from_Behind _ T.budgets (Behind-mono _ _ [] T.budgets (λ b x k. k.1.1.0) h.budgets);
  lines = All-from_Behind _ T.lines (Behind-mono _ _ [] T.lines (λ b x k. k.1.1.1.0) h.lines);
  negatives = All-from_Behind _ T.negatives (Behind-mono _ _ [] T.negatives (λ b x k. k.1.1.0) h.negatives);
  placements = All-from_Behind _ T.placements (Behind-mono _ _ [] T.placements (λ b x k. k.1.1.1.0) h.placements);
  batches = All-from_Behind _ T.batches (Behind-mono _ _ [] T.batches (λ b x k. k.1.1.0) h.batches);
}

-- rule 5
abbrev pub lines_alike : Line → Line → Bool
lines_alike later l = is_line_like later.account later.campaign later.pattern l

abbrev pub negatives_alike : Negative → Negative → Bool
negatives_alike later n = is_negative_like later.account later.campaign later.pattern n

apart_kept : (T : Tables) → RowsKeepRules T → PatternsDiffer T
unfolding line_rules negative_rules
apart_kept T h = record {
  lines = pairs_differ lines_alike T.lines (Behind-mono _ _ [] T.lines (λ b x k. k.1.1.1.1.0) h.lines);
  negatives = pairs_differ negatives_alike T.negatives (Behind-mono _ _ [] T.negatives (λ b x k. k.1.1.1.0) h.negatives);
}

-- rule 6
limits_kept : (T : Tables) → RowsKeepRules T → FitLimits T
unfolding account_rules campaign_rules line_rules negative_rules
limits_kept T h = record {
  accounts = rows_fit ACCOUNTS_MAX T.accounts (Behind-mono _ _ [] T.accounts (λ b x k. k.1.1.1.0) h.accounts);
  campaigns = λ g. groups_fit (λ c. c.account) CAMPAIGNS_MAX g T.campaigns (Behind-mono _ _ [] T.campaigns (λ b x k. k.1.1.1.0) h.campaigns);
  lines = λ g. groups_fit (λ l. l.account) LINES_MAX g T.lines (Behind-mono _ _ [] T.lines (λ b x k. k.1.1.1.1.1.0) h.lines);
  negatives = λ g. groups_fit (λ n. n.account) NEGATIVES_MAX g T.negatives (Behind-mono _ _ [] T.negatives (λ b x k. k.1.1.1.1.0) h.negatives);
}

-- rule 7
budgets_kept : (T : Tables) → RowsKeepRules T → HaveBudgets T
unfolding campaign_rules
budgets_kept T h = All-from_Behind _ T.campaigns (Behind-mono _ _ [] T.campaigns (λ b x k. k.1.1.1.1.0) h.campaigns)

-- rule 8
abbrev pub is_not_later : Placement → Placement → Bool
is_not_later p later = nat_le p.shown later.shown

up_to : (m n : ℕ) → nat_le m n ≡ true → m ≤ n
up_to m n h = grind (arith, nat_tests)

not_later-over : CarriesOver is_not_later
not_later-over x y z h k = later_again x.shown y.shown z.shown h k
  where
    later_again : (l m n : ℕ) → nat_le l m ≡ true → nat_le m n ≡ true → nat_le l n ≡ true
    later_again l m n h k = grind (arith, nat_tests)

turn_parts : (before : List Placement) (p : Placement) → is_in_turn before p ≡ true
    → (IsBehindLast is_not_later before p) × ((p.deadline ≡ p.shown + CLICK_WINDOW) × (is_in_window p p.fate ≡ true))
turn_parts before p h =
    let first = and_parts (last_passes (λ q. nat_le q.shown p.shown) before) (p.deadline == p.shown + CLICK_WINDOW && is_in_window p p.fate) h in
    let rest = and_parts (p.deadline == p.shown + CLICK_WINDOW) (is_in_window p p.fate) first.1 in
    (first.0, (eqb-true p.deadline (p.shown + CLICK_WINDOW) rest.0, rest.1))

turns_kept : (T : Tables) → RowsKeepRules T → AreInTurn T.placements
unfolding placement_rules
turns_kept T h =
    let turns : Behind (λ b p. is_in_turn b p ≡ true) [] T.placements =
    Behind-mono _ _ [] T.placements (λ b x k. k.1.1.1.1.0) h.placements in
    let moments = pairs_climb is_not_later T.placements not_later-over (Behind-mono _ _ [] T.placements (λ b p k. (turn_parts b p k).0) turns) in
    record {
      moments = λ i j d low high. up_to _ _ (moments i j d low high);
      deadlines = All-from_Behind _ T.placements (Behind-mono _ _ [] T.placements (λ b p k. (turn_parts b p k).1.0) turns);
      windows = All-from_Behind _ T.placements (Behind-mono _ _ [] T.placements (λ b p k. (turn_parts b p k).1.1) turns);
    }

-- rule 9
paid_kept : (T : Tables) → RowsKeepRules T → Behind (IsPaidFor T) [] T.placements
unfolding placement_rules
paid_kept T h = Behind-mono _ _ [] T.placements (λ b x k. k.1.1.1.1.1.0) h.placements

pub kept_from : (S : State) → AreSound S.tables → latest S.tables ≤ S.moment → S.moment ≤ MOMENT_MAX → IsKept S
kept_from S sound past moment =
    let rules = rows_keep S.tables sound in
    let almost : IsAlmostKept S = record {
      moment = moment;
      past = past;
      in_order = order_kept S.tables rules;
      numbered = numbers_kept S.tables rules;
      fields = fields_kept S.tables rules;
      named = names_kept S.tables rules;
      apart = apart_kept S.tables rules;
      limits = limits_kept S.tables rules;
      in_turn = turns_kept S.tables rules;
      paid = within_if_paid S.settings S.tables (paid_kept S.tables rules);
    } in
    record { almost = almost; budgets = budgets_kept S.tables rules }

-- no row tells a moment beyond the greatest
both_up_to : (m n high : ℕ) → m ≤ high → n ≤ high → max m n ≤ high
both_up_to m n high h k = omega (arith, h, k)

greatest_up_to : {A : Type 0} (moment : A → ℕ) (rows : List A) (high : ℕ) → Each (λ x. moment x ≤ high) rows → greatest (map moment rows) ≤ high
greatest_up_to moment [] high h = omega arith
greatest_up_to moment (row ∷ rows) high h = both_up_to (moment row) (greatest (map moment rows)) high h.0 (greatest_up_to moment rows high h.1)

fate_up_to : (fate : Fate) → is_good_fate fate ≡ true → fate_moment fate ≤ MOMENT_MAX
fate_up_to Open h = omega arith
fate_up_to (Settled at) h = up_to at MOMENT_MAX h
fate_up_to (Credited settled credited) h =
    let parts = and_parts (nat_le settled MOMENT_MAX) (nat_le credited MOMENT_MAX) h in
    both_up_to settled credited MOMENT_MAX (up_to settled MOMENT_MAX parts.0) (up_to credited MOMENT_MAX parts.1)

last_two : (a b c d e : Bool) → (a && (b && (c && (d && e)))) ≡ true → (d ≡ true) × (e ≡ true)
last_two a b c d e h = and_parts d e (and_parts c (d && e) (and_parts b (c && (d && e)) (and_parts a (b && (c && (d && e))) h).1).1).1

placement_up_to : (p : Placement) → is_good_placement p ≡ true → placement_moment p ≤ MOMENT_MAX
placement_up_to p h =
    let parts = last_two (is_within 1 PLACES_MAX p.place) (is_within BID_MIN BID_MAX p.bid) (is_within 1 p.bid p.price) (nat_le p.shown MOMENT_MAX) (is_good_fate p.fate) h in
    both_up_to p.shown (fate_moment p.fate) MOMENT_MAX (up_to p.shown MOMENT_MAX parts.0) (fate_up_to p.fate parts.1)

budget_up_to : (b : BudgetSet) → is_good_budget b ≡ true → b.at ≤ MOMENT_MAX
budget_up_to b h = up_to b.at MOMENT_MAX (and_parts (is_within BUDGET_MIN BUDGET_MAX b.amount) (nat_le b.at MOMENT_MAX) h).1

pub latest_up_to : (T : Tables) → HaveGoodFields T → latest T ≤ MOMENT_MAX
unfolding latest
latest_up_to T h =
    both_up_to (greatest (map (λ b. b.at) T.budgets)) (greatest (map placement_moment T.placements)) MOMENT_MAX
    (greatest_up_to (λ b. b.at) T.budgets MOMENT_MAX (Each-mono (λ b. is_good_budget b ≡ true) (λ b. b.at ≤ MOMENT_MAX) T.budgets budget_up_to (Each-from_All (λ b. is_good_budget b ≡ true) T.budgets h.budgets)))
    (greatest_up_to placement_moment T.placements MOMENT_MAX
    (Each-mono (λ p. is_good_placement p ≡ true) (λ p. placement_moment p ≤ MOMENT_MAX) T.placements placement_up_to (Each-from_All (λ p. is_good_placement p ≡ true) T.placements h.placements)))

pub latest_in : (T : Tables) → AreSound T → latest T ≤ MOMENT_MAX
latest_in T sound = latest_up_to T (fields_kept T (rows_keep T sound))
