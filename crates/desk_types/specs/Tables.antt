-- The tables of rows: what is found in them, and what a change puts.
use Rattle.std.specs.Prelude.{ℕ, Bool, ◌==◌, ◌&&◌, if◌then◌else◌, List, [], ◌∷◌, Option, Some, None, find, count_by}
use Rattle.std.specs.List.{list_any}
use Rattle.desk_types.specs.declared.rows.Account.{Account}
use Rattle.desk_types.specs.declared.rows.Batch.{Batch}
use Rattle.desk_types.specs.declared.rows.Campaign.{Campaign}
use Rattle.desk_types.specs.declared.rows.Fate.{Fate}
use Rattle.desk_types.specs.declared.rows.Line.{Line}
use Rattle.desk_types.specs.declared.rows.Negative.{Negative}
use Rattle.desk_types.specs.declared.rows.Placement.{Placement}
use Rattle.desk_types.specs.declared.tables.Change.{Change}
use Rattle.desk_types.specs.declared.tables.Change.TheVariants.{PutAccount, PutCampaign, PutBudget, PutLine, PutNegative, PutPlacement, PutBatch, PutFate}
use Rattle.desk_types.specs.declared.tables.Tables.{Tables}
use Rattle.desk_types.specs.Keys.{account_key, campaign_key, budget_key, line_key, negative_key, placement_key, batch_key, is_same_key, is_less_key}

-- tables without rows
abbrev pub no_rows : Tables
no_rows = record {
  accounts = [];
  campaigns = [];
  budgets = [];
  lines = [];
  negatives = [];
  placements = [];
  batches = [];
}

-- the account, campaign, line, negative, placement or batch of a number, if there is one
abbrev pub account_of : Tables → ℕ → Option Account
account_of T account = find (λ a. a.number == account) T.accounts

abbrev pub campaign_of : Tables → ℕ → ℕ → Option Campaign
campaign_of T account campaign = find (λ c. c.account == account && c.number == campaign) T.campaigns

abbrev pub line_of : Tables → ℕ → ℕ → Option Line
line_of T account line = find (λ l. l.account == account && l.number == line) T.lines

abbrev pub negative_of : Tables → ℕ → ℕ → Option Negative
negative_of T account negative = find (λ n. n.account == account && n.number == negative) T.negatives

abbrev pub placement_of : Tables → ℕ → Option Placement
placement_of T placement = find (λ p. p.number == placement) T.placements

abbrev pub batch_of : Tables → ℕ → ℕ → Option Batch
batch_of T account batch = find (λ b. b.account == account && b.number == batch) T.batches

-- how many campaigns, lines or negatives an account has
abbrev pub campaigns_of : Tables → ℕ → ℕ
campaigns_of T account = count_by (λ c. c.account == account) T.campaigns

abbrev pub lines_of : Tables → ℕ → ℕ
lines_of T account = count_by (λ l. l.account == account) T.lines

abbrev pub negatives_of : Tables → ℕ → ℕ
negatives_of T account = count_by (λ n. n.account == account) T.negatives

-- the rows with this one in place of the first that has its key
abbrev pub replaced : {A : Type 0} → (A → List ℕ) → A → List A → List A
replaced key row [] = []
replaced key row (r ∷ rows) = if is_same_key (key r) (key row) then row ∷ rows else r ∷ replaced key row rows

-- the rows with this one before the first that has a greater key, or else last
abbrev pub inserted : {A : Type 0} → (A → List ℕ) → A → List A → List A
inserted key row [] = row ∷ []
inserted key row (r ∷ rows) = if is_less_key (key row) (key r) then row ∷ r ∷ rows else r ∷ inserted key row rows

-- whether a row has this key
abbrev pub has_key : {A : Type 0} → (A → List ℕ) → List ℕ → List A → Bool
has_key key wanted rows = list_any (λ r. is_same_key (key r) wanted) rows

-- the rows with this one put by its key
unfoldable pub put_row : {A : Type 0} → (A → List ℕ) → A → List A → List A
put_row key row rows = if has_key key (key row) rows then replaced key row rows else inserted key row rows

-- the tables with this fate of a placement, where it is there
abbrev pub put_fate : Tables → Fate → Option Placement → Tables
put_fate T fate (Some p) = record T { placements = put_row placement_key (record p { fate = fate }) T.placements }
put_fate T fate None = T

-- the tables after a change
unfoldable pub put : Tables → Change → Tables
put T (PutAccount a) = record T { accounts = put_row account_key a T.accounts }
put T (PutCampaign c) = record T { campaigns = put_row campaign_key c T.campaigns }
put T (PutBudget b) = record T { budgets = put_row budget_key b T.budgets }
put T (PutLine l) = record T { lines = put_row line_key l T.lines }
put T (PutNegative n) = record T { negatives = put_row negative_key n T.negatives }
put T (PutPlacement p) = record T { placements = put_row placement_key p T.placements }
put T (PutBatch b) = record T { batches = put_row batch_key b T.batches }
put T (PutFate number fate) = put_fate T fate (placement_of T number)

-- the tables after a list of changes, in order
unfoldable pub put_all : Tables → List Change → Tables
put_all T [] = T
put_all T (change ∷ changes) = put_all (put T change) changes
