-- The rows of one account, and that they are those of its tables.
use Rattle.std.specs.Prelude.{◌⊎◌, IsTrue, is_some, find, ◌≡◌, ℕ, ◌+◌, ◌==◌, List, [], ◌∷◌, map, filter, length, ◌++◌, All, None, Some, ⊤}
use Rattle.desk_types.specs.declared.rows.Line.{Line}
use Rattle.desk_types.specs.declared.tables.Change.{Change}
use Rattle.desk_types.specs.declared.tables.Change.TheVariants.{PutAccount, PutCampaign, PutBudget, PutLine, PutNegative, PutPlacement, PutBatch, PutFate}
use Rattle.desk_types.specs.declared.tables.Tables.{Tables}
use Rattle.desk_types.specs.Keys.{batch_key, budget_key, campaign_key, line_key, negative_key}
use Rattle.desk_types.specs.Sound.{AreInOrder, RunFromOne}
use Rattle.desk_types.specs.Tables.{account_of, put_row}
use Rattle.accounts.specs.BookValue.{ShelfValue}

-- each row is of this account
pub record AreOwnRows (account : ℕ) (s : ShelfValue) : Type 0 where
  pub campaigns : All (λ c. c.account ≡ account) s.campaigns
  pub budgets : All (λ b. b.account ≡ account) s.budgets
  pub lines : All (λ l. l.account ≡ account) s.lines
  pub negatives : All (λ n. n.account ≡ account) s.negatives
  pub batches : All (λ b. b.account ≡ account) s.batches

-- the rows stand in the order of their keys
pub record AreShelvedInOrder (s : ShelfValue) : Type 0 where
  pub campaigns : AreInOrder campaign_key s.campaigns
  pub budgets : AreInOrder budget_key s.budgets
  pub lines : AreInOrder line_key s.lines
  pub negatives : AreInOrder negative_key s.negatives
  pub batches : AreInOrder batch_key s.batches

-- the rows of the account of this number
pub record IsShelf (account : ℕ) (s : ShelfValue) : Type 0 where
  pub number : s.account.number ≡ account
  pub own : AreOwnRows account s
  pub in_order : AreShelvedInOrder s
  pub campaigns : RunFromOne (map (λ c. c.number) s.campaigns)
  pub lines : RunFromOne (map (λ l. l.number) s.lines)
  pub negatives : RunFromOne (map (λ n. n.number) s.negatives)

-- the rows of accounts that are numbered from this number on
abbrev pub AreShelves : ℕ → List ShelfValue → Type 0
AreShelves number [] = ⊤
AreShelves number (s ∷ shelves) = IsShelf number s × AreShelves (number + 1) shelves

-- the rows are those that the tables have of the account
pub record HasShelf (T : Tables) (account : ℕ) (s : ShelfValue) : Type 0 where
  pub is : IsShelf account s
  pub found : account_of T account ≡ Some s.account
  pub only : filter (λ a. a.number == account) T.accounts ≡ s.account ∷ []
  pub campaigns : filter (λ c. c.account == account) T.campaigns ≡ s.campaigns
  pub budgets : filter (λ b. b.account == account) T.budgets ≡ s.budgets
  pub lines : filter (λ l. l.account == account) T.lines ≡ s.lines
  pub negatives : filter (λ n. n.account == account) T.negatives ≡ s.negatives
  pub batches : filter (λ b. b.account == account) T.batches ≡ s.batches
  pub in_order : AreInOrder line_key T.lines

-- the tables have no row of the account
pub record HasNoShelf (T : Tables) (account : ℕ) : Type 0 where
  pub unknown : account_of T account ≡ None
  pub accounts : filter (λ a. a.number == account) T.accounts ≡ []
  pub campaigns : filter (λ c. c.account == account) T.campaigns ≡ []
  pub budgets : filter (λ b. b.account == account) T.budgets ≡ []
  pub lines : filter (λ l. l.account == account) T.lines ≡ []
  pub negatives : filter (λ n. n.account == account) T.negatives ≡ []

-- the tables are those of the account's rows with these lines made behind its own
pub record IsBehind (T : Tables) (account : ℕ) (s : ShelfValue) (made : List Line) : Type 0 where
  pub is : IsShelf account s
  pub campaigns : filter (λ c. c.account == account) T.campaigns ≡ s.campaigns
  pub lines : filter (λ l. l.account == account) T.lines ≡ s.lines ++ made
  pub run : RunFromOne (map (λ l. l.number) (s.lines ++ made))
  pub in_order : AreInOrder line_key T.lines

-- a number that is there, or the next one
abbrev pub IsThereOrNext : {A : Type 0} → (A → ℕ) → ℕ → List A → Type 0
IsThereOrNext number n rows = IsTrue (is_some (find (λ x. number x == n) rows)) ⊎ (n ≡ length rows + 1)

-- the rows of an account with a change to them
abbrev pub put_on : ShelfValue → Change → ShelfValue
put_on s (PutAccount a) = record s { account = a }
put_on s (PutCampaign c) = record s { campaigns = put_row campaign_key c s.campaigns }
put_on s (PutBudget b) = record s { budgets = put_row budget_key b s.budgets }
put_on s (PutLine l) = record s { lines = put_row line_key l s.lines }
put_on s (PutNegative n) = record s { negatives = put_row negative_key n s.negatives }
put_on s (PutPlacement p) = s
put_on s (PutBatch b) = record s { batches = put_row batch_key b s.batches }
put_on s (PutFate number fate) = s

-- the rows of the one are those of the other, whatever the room
abbrev pub HasRowsOf : ShelfValue → ShelfValue → Type 0
HasRowsOf s t = t ≡ record s { spare = t.spare }

-- the row that a change puts is of this account, with a number that is there or the next one
abbrev pub IsNextOn : ℕ → ShelfValue → Change → Type 0
IsNextOn account s (PutAccount a) = a.number ≡ account
IsNextOn account s (PutCampaign c) = (c.account ≡ account)
    × IsThereOrNext (λ k. k.number) c.number s.campaigns
IsNextOn account s (PutBudget b) = b.account ≡ account
IsNextOn account s (PutLine l) = (l.account ≡ account) × IsThereOrNext (λ k. k.number) l.number s.lines
IsNextOn account s (PutNegative n) = (n.account ≡ account) × IsThereOrNext (λ k. k.number) n.number s.negatives
IsNextOn account s (PutPlacement p) = ⊥
IsNextOn account s (PutBatch b) = b.account ≡ account
IsNextOn account s (PutFate number fate) = ⊥
