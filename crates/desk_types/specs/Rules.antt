-- The rules that the rows of a desk keep, by their numbers, and the first one that is broken.
use Rattle.std.specs.Prelude.{◌≡◌, ℕ, ◌+◌, Bool, true, not, ◌==◌, ◌&&◌, ◌||◌, nat_lt, nat_le, if◌then◌else◌, List, [], ◌∷◌, ◌++◌, length, filter, sum_by, count_by, Option, None, Some, is_some}
use Rattle.std.specs.List.{list_all, list_any, range_with_len}
use Rattle.std.specs.Option.{option_or}
use Rattle.match_types.specs.Tests.{is_same_pattern}
use Rattle.auction_types.specs.declared.limits.TheConstants.{BID_MIN, BID_MAX, QUALITY_MIN, QUALITY_MAX, PLACES_MAX}
use Rattle.desk_types.specs.declared.limits.TheConstants.{ACCOUNTS_MAX, BATCH_MAX, BUDGET_MAX, BUDGET_MIN, CAMPAIGNS_MAX, CLICK_WINDOW, LINES_MAX, MOMENT_MAX, NEGATIVES_MAX, ROWS_MAX}
use Rattle.desk_types.specs.declared.rows.Account.{Account}
use Rattle.desk_types.specs.declared.rows.Batch.{Batch}
use Rattle.desk_types.specs.declared.rows.BudgetSet.{BudgetSet}
use Rattle.desk_types.specs.declared.rows.Campaign.{Campaign}
use Rattle.desk_types.specs.declared.rows.Fate.{Fate}
use Rattle.desk_types.specs.declared.rows.Fate.TheVariants.{Open, Settled, Credited}
use Rattle.desk_types.specs.declared.rows.Line.{Line}
use Rattle.desk_types.specs.declared.rows.Negative.{Negative}
use Rattle.desk_types.specs.declared.rows.Placement.{Placement}
use Rattle.desk_types.specs.declared.tables.BadTables.{BadTables}
use Rattle.desk_types.specs.declared.tables.Tables.{Tables}
use Rattle.desk_types.specs.Day.{day_of}
use Rattle.desk_types.specs.Fields.{is_headline, is_key, is_link}
use Rattle.desk_types.specs.Judged.{is_line_like, is_within}
use Rattle.desk_types.specs.Keys.{account_key, batch_key, budget_key, campaign_key, is_less_key, line_key, negative_key, placement_key}
use Rattle.desk_types.specs.Money.{budget_in, is_escrowed, is_shown_on, is_spent}
use Rattle.desk_types.specs.Opening.{latest}
use Rattle.desk_types.specs.Tables.{account_of, campaign_of, line_of}

-- the last of the rows passes the test, or there is none
abbrev pub last_passes : {A : Type 0} → (A → Bool) → List A → Bool
last_passes test [] = true
last_passes test (row ∷ []) = test row
last_passes test (row ∷ next ∷ rows) = last_passes test (next ∷ rows)

-- rule 1: the key is greater than that of the row before
abbrev pub is_in_order : {A : Type 0} → (A → List ℕ) → List A → A → Bool
is_in_order key before row = last_passes (λ r. is_less_key (key r) (key row)) before

-- rule 2: every field is in its range
abbrev pub is_good_budget : BudgetSet → Bool
is_good_budget b = is_within BUDGET_MIN BUDGET_MAX b.amount && nat_le b.at MOMENT_MAX

abbrev pub is_good_line : Line → Bool
is_good_line l =
    is_headline l.headline && (is_link l.link
    && (is_within BID_MIN BID_MAX l.bid && is_within QUALITY_MIN QUALITY_MAX l.quality))

abbrev pub is_good_fate : Fate → Bool
is_good_fate Open = true
is_good_fate (Settled at) = nat_le at MOMENT_MAX
is_good_fate (Credited settled credited) = nat_le settled MOMENT_MAX && nat_le credited MOMENT_MAX

abbrev pub is_good_placement : Placement → Bool
is_good_placement p =
    is_within 1 PLACES_MAX p.place && (is_within BID_MIN BID_MAX p.bid
    && (is_within 1 p.bid p.price && (nat_le p.shown MOMENT_MAX && is_good_fate p.fate)))

abbrev pub is_good_batch : Batch → Bool
is_good_batch b = is_within 1 BATCH_MAX b.number && is_within 1 ROWS_MAX b.count

-- rule 3: the number is the next one behind so many
abbrev pub is_next : ℕ → ℕ → Bool
is_next before number = number == before + 1

-- rule 4: what the row names is there
abbrev pub has_account : Tables → ℕ → Bool
has_account T account = is_some (account_of T account)

abbrev pub has_campaign : Tables → ℕ → ℕ → Bool
has_campaign T account campaign = has_account T account && is_some (campaign_of T account campaign)

abbrev pub has_line_of : Tables → Placement → Bool
has_line_of T p =
    list_any (λ l. l.account == p.account && (l.number == p.line && l.campaign == p.campaign)) T.lines

abbrev pub has_lines_of : Tables → Batch → Bool
has_lines_of T b = list_all (λ number. is_some (line_of T b.account number)) (range_with_len b.first b.count)

-- rule 5: no earlier row of the campaign has the same pattern
abbrev pub has_new_line : List Line → Line → Bool
has_new_line before l = not (list_any (is_line_like l.account l.campaign l.pattern) before)

abbrev pub is_negative_like : ℕ → ℕ → List ℕ → Negative → Bool
is_negative_like account campaign pattern n =
    n.account == account && (n.campaign == campaign && is_same_pattern n.pattern pattern)

abbrev pub has_new_negative : List Negative → Negative → Bool
has_new_negative before n = not (list_any (is_negative_like n.account n.campaign n.pattern) before)

-- rule 6: there is room for one more behind so many
abbrev pub has_place : ℕ → ℕ → Bool
has_place limit before = nat_lt before limit

-- rule 7: the campaign has a budget row
abbrev pub has_budget : Tables → Campaign → Bool
has_budget T c = list_any (λ b. b.account == c.account && b.campaign == c.number) T.budgets

-- rule 8: it is shown not before the one before it, its deadline is a click window later, a click settled it from the
-- moment shown up to the deadline, and the host credited it not before that
abbrev pub is_in_window : Placement → Fate → Bool
is_in_window p Open = true
is_in_window p (Settled at) = nat_le p.shown at && nat_lt at p.deadline
is_in_window p (Credited settled credited) =
    nat_le p.shown settled && (nat_lt settled p.deadline && nat_le settled credited)

abbrev pub is_in_turn : List Placement → Placement → Bool
is_in_turn before p =
    last_passes (λ q. nat_le q.shown p.shown) before
    && (p.deadline == p.shown + CLICK_WINDOW && is_in_window p p.fate)

-- rule 9: of it and the earlier placements of its campaign and day, those that are spent or escrowed cost at most the
-- day's budget
abbrev pub is_charged : ℕ → ℕ → ℕ → ℕ → Placement → Bool
is_charged account campaign day moment p =
    is_shown_on account campaign day p && (is_spent p.fate || is_escrowed moment p)

abbrev pub charged_by : Tables → Placement → List Placement → ℕ
charged_by T p rows =
    sum_by (λ q. q.price) (filter (is_charged p.account p.campaign (day_of p.shown) (latest T)) rows)

abbrev pub is_paid_for : Tables → List Placement → Placement → Bool
is_paid_for T before p =
    nat_le (charged_by T p (before ++ p ∷ [])) (budget_in T.budgets p.account p.campaign (day_of p.shown))

-- a rule by its number, and whether a row keeps it
pub record Rule : Type 0 where
  pub number : ℕ
  pub is_kept : Bool

abbrev pub rule : ℕ → Bool → Rule
rule number is_kept = record { number = number; is_kept = is_kept }

-- the rules of a row of each table, behind the rows before it
unfoldable pub account_rules : List Account → Account → List Rule
account_rules before a =
    rule 1 (is_in_order account_key before a)
    ∷ rule 2 (is_key a.key)
    ∷ rule 3 (is_next (length before) a.number)
    ∷ rule 6 (has_place ACCOUNTS_MAX (length before))
    ∷ []

unfoldable pub campaign_rules : Tables → List Campaign → Campaign → List Rule
campaign_rules T before c = let own = count_by (λ k. k.account == c.account) before in
    rule 1 (is_in_order campaign_key before c)
    ∷ rule 3 (is_next own c.number)
    ∷ rule 4 (has_account T c.account)
    ∷ rule 6 (has_place CAMPAIGNS_MAX own)
    ∷ rule 7 (has_budget T c)
    ∷ []

unfoldable pub budget_rules : Tables → List BudgetSet → BudgetSet → List Rule
budget_rules T before b =
    rule 1 (is_in_order budget_key before b)
    ∷ rule 2 (is_good_budget b)
    ∷ rule 4 (has_campaign T b.account b.campaign)
    ∷ []

unfoldable pub line_rules : Tables → List Line → Line → List Rule
line_rules T before l = let own = count_by (λ k. k.account == l.account) before in
    rule 1 (is_in_order line_key before l)
    ∷ rule 2 (is_good_line l)
    ∷ rule 3 (is_next own l.number)
    ∷ rule 4 (has_campaign T l.account l.campaign)
    ∷ rule 5 (has_new_line before l)
    ∷ rule 6 (has_place LINES_MAX own)
    ∷ []

unfoldable pub negative_rules : Tables → List Negative → Negative → List Rule
negative_rules T before n = let own = count_by (λ k. k.account == n.account) before in
    rule 1 (is_in_order negative_key before n)
    ∷ rule 3 (is_next own n.number)
    ∷ rule 4 (has_campaign T n.account n.campaign)
    ∷ rule 5 (has_new_negative before n)
    ∷ rule 6 (has_place NEGATIVES_MAX own)
    ∷ []

unfoldable pub placement_rules : Tables → List Placement → Placement → List Rule
placement_rules T before p =
    rule 1 (is_in_order placement_key before p)
    ∷ rule 2 (is_good_placement p)
    ∷ rule 3 (is_next (length before) p.number)
    ∷ rule 4 (has_campaign T p.account p.campaign && has_line_of T p)
    ∷ rule 8 (is_in_turn before p)
    ∷ rule 9 (is_paid_for T before p)
    ∷ []

unfoldable pub batch_rules : Tables → List Batch → Batch → List Rule
batch_rules T before b =
    rule 1 (is_in_order batch_key before b)
    ∷ rule 2 (is_good_batch b)
    ∷ rule 4 (has_account T b.account && has_lines_of T b)
    ∷ []

-- the first rule that is not kept
abbrev pub first_broken : List Rule → Option ℕ
first_broken [] = None
first_broken (r ∷ rules) = if r.is_kept then first_broken rules else Some r.number

-- the rule that a row of a table breaks, or else what is bad behind it
abbrev pub bad_or : ℕ → ℕ → Option ℕ → Option BadTables → Option BadTables
bad_or table row (Some rule) later = Some (record { rule = rule; table = table; row = row })
bad_or table row None later = later

-- the first row of a table, behind those before, that breaks a rule, and the first rule that it breaks
unfoldable pub first_bad : {A : Type 0} → ℕ → (List A → A → List Rule) → List A → List A → Option BadTables
first_bad table rules before [] = None
first_bad table rules before (row ∷ rows) =
    bad_or table (length before + 1) (first_broken (rules before row)) (first_bad table rules (before ++ row ∷ []) rows)

-- the first of these that is there
abbrev pub first_there : List (Option BadTables) → Option BadTables
first_there [] = None
first_there (found ∷ later) = option_or found (first_there later)

-- the rule that tables break first: of the first table, there of the first row
unfoldable pub broken : Tables → Option BadTables
broken T = first_there (
    first_bad 1 account_rules [] T.accounts
    ∷ first_bad 2 (campaign_rules T) [] T.campaigns
    ∷ first_bad 3 (budget_rules T) [] T.budgets
    ∷ first_bad 4 (line_rules T) [] T.lines
    ∷ first_bad 5 (negative_rules T) [] T.negatives
    ∷ first_bad 6 (placement_rules T) [] T.placements
    ∷ first_bad 7 (batch_rules T) [] T.batches
    ∷ [])

-- no rule is broken
abbrev pub AreSound : Tables → Type 0
AreSound T = broken T ≡ None
