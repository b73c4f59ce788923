-- What holds of the rows at each moment: the laws of the ledger stand on it.
use Rattle.std.specs.Prelude.{◌≡◌, ℕ, ◌≤◌, ◌==◌, ◌≤ℤ◌, pos, IsTrue, List, length, map, filter}
use Rattle.std.specs.List.{AllPairs, range_with_len}
use Rattle.desk_types.specs.declared.limits.TheConstants.{MOMENT_MAX}
use Rattle.desk_types.specs.declared.tables.Tables.{Tables}
use Rattle.desk_types.specs.Keys.{account_key, campaign_key, budget_key, line_key, negative_key, placement_key, batch_key, is_less_key}
use Rattle.desk_types.specs.Money.{free}
use Rattle.desk_types.specs.Opening.{latest}
use Rattle.desk_types.specs.Rules.{AreSound}
use Rattle.desk_types.specs.State.{State}

-- the key of each row is greater than those of the rows before it
abbrev pub AreInOrder : {A : Type 0} → (A → List ℕ) → List A → Type 0
AreInOrder {A} key rows = AllPairs (λ (row later : A). IsTrue (is_less_key (key row) (key later))) rows

-- the rows of each table stand in the order of their keys
pub record StandInOrder (T : Tables) : Type 0 where
  pub accounts : AreInOrder account_key T.accounts
  pub campaigns : AreInOrder campaign_key T.campaigns
  pub budgets : AreInOrder budget_key T.budgets
  pub lines : AreInOrder line_key T.lines
  pub negatives : AreInOrder negative_key T.negatives
  pub placements : AreInOrder placement_key T.placements
  pub batches : AreInOrder batch_key T.batches

-- the numbers run from 1 without a gap
abbrev pub RunFromOne : List ℕ → Type 0
RunFromOne numbers = numbers ≡ range_with_len 1 (length numbers)

-- accounts and placements are numbered from 1, and so are the campaigns, lines and negatives of each account
pub record AreNumbered (T : Tables) : Type 0 where
  pub accounts : RunFromOne (map (λ a. a.number) T.accounts)
  pub campaigns : (account : ℕ) → RunFromOne (map (λ c. c.number) (filter (λ c. c.account == account) T.campaigns))
  pub lines : (account : ℕ) → RunFromOne (map (λ l. l.number) (filter (λ l. l.account == account) T.lines))
  pub negatives : (account : ℕ) → RunFromOne (map (λ n. n.number) (filter (λ n. n.account == account) T.negatives))
  pub placements : RunFromOne (map (λ p. p.number) T.placements)

-- no campaign has used more than its budget on any day
abbrev pub StaysWithinBudgets : State → Type 0
StaysWithinBudgets S = (account campaign day : ℕ) → pos 0 ≤ℤ free S account campaign day

-- the rows of a state are sound: they break no rule, and its moment is none before the last one that they tell
pub record IsSound (S : State) : Type 0 where
  pub tables : AreSound S.tables
  pub not_before : latest S.tables ≤ S.moment
  pub moment : S.moment ≤ MOMENT_MAX
