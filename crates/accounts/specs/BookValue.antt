-- A book of accounts as contracts see it.
use Rattle.std.specs.Prelude.{Bool, true, false, ℕ, ◌+◌, ◌-◌, ◌≤◌, List, [], length, map, flat_map, All, ⊤}
use Rattle.std.specs.List.{slice_index_or}
use Rattle.match_types.specs.Fingerprint.{fingerprint_from}
use Rattle.desk_types.specs.declared.rows.Account.{Account}
use Rattle.desk_types.specs.declared.rows.Batch.{Batch}
use Rattle.desk_types.specs.declared.rows.BudgetSet.{BudgetSet}
use Rattle.desk_types.specs.declared.rows.Campaign.{Campaign}
use Rattle.desk_types.specs.declared.rows.Line.{Line}
use Rattle.desk_types.specs.declared.rows.Negative.{Negative}
use Rattle.desk_types.specs.declared.tables.Change.{Change}
use Rattle.desk_types.specs.declared.tables.Change.TheVariants.{PutAccount, PutCampaign, PutBudget, PutLine, PutNegative, PutPlacement, PutBatch, PutFate}
use Rattle.desk_types.specs.declared.tables.Tables.{Tables}

-- how many more rows of each table of an account there is room for without memory
pub record Spare : Type 0 where
  pub campaigns : ℕ
  pub budgets : ℕ
  pub lines : ℕ
  pub negatives : ℕ
  pub batches : ℕ

-- the number by which the line of a pattern is looked for: the fingerprint of the pattern, begun from the campaign
abbrev pub line_fingerprint : Line → ℕ
line_fingerprint l = fingerprint_from l.campaign l.pattern

-- the lines of an account, and how many more there is room for without memory
pub record LinesValue : Type 0 where
  pub rows : List Line
  pub spare : ℕ

-- an account with its rows
pub record ShelfValue : Type 0 where
  pub account : Account
  pub campaigns : List Campaign
  pub budgets : List BudgetSet
  pub lines : List Line
  pub negatives : List Negative
  pub batches : List Batch
  pub spare : Spare

-- the tables of these accounts, one after another; placements are kept elsewhere
abbrev pub tables_of : List ShelfValue → Tables
tables_of shelves = record {
  accounts = map (λ s. s.account) shelves;
  campaigns = flat_map (λ s. s.campaigns) shelves;
  budgets = flat_map (λ s. s.budgets) shelves;
  lines = flat_map (λ s. s.lines) shelves;
  negatives = flat_map (λ s. s.negatives) shelves;
  placements = [];
  batches = flat_map (λ s. s.batches) shelves;
}

-- the rows that a book keeps: all but the placements
abbrev pub catalogue_rows : Tables → Tables
catalogue_rows T = record T { placements = [] }

-- how many more accounts there is room for, and how many more rows of each, by their numbers
pub record Room : Type 0 where
  pub accounts : ℕ
  pub rows : List Spare

-- a book: its rows, and the room for more
pub record BookValue : Type 0 where
  pub tables : Tables
  pub room : Room

abbrev pub no_spare : Spare
no_spare = record { campaigns = 0; budgets = 0; lines = 0; negatives = 0; batches = 0 }

-- the room for further rows of an account
abbrev pub spare_of : Room → ℕ → Spare
spare_of room account = slice_index_or room.rows (account - 1) no_spare

-- there is room for so many more rows of an account in the table that the change puts into
abbrev pub HasSpareFor : Spare → ℕ → Change → Type 0
HasSpareFor spare count (PutAccount a) = ⊤
HasSpareFor spare count (PutCampaign c) = count ≤ spare.campaigns
HasSpareFor spare count (PutBudget b) = count ≤ spare.budgets
HasSpareFor spare count (PutLine l) = count ≤ spare.lines
HasSpareFor spare count (PutNegative n) = count ≤ spare.negatives
HasSpareFor spare count (PutPlacement p) = ⊤
HasSpareFor spare count (PutBatch b) = count ≤ spare.batches
HasSpareFor spare count (PutFate number fate) = ⊤

-- the account of the row that a change puts
abbrev pub owner_of : Change → ℕ
owner_of (PutAccount a) = a.number
owner_of (PutCampaign c) = c.account
owner_of (PutBudget b) = b.account
owner_of (PutLine l) = l.account
owner_of (PutNegative n) = n.account
owner_of (PutPlacement p) = p.account
owner_of (PutBatch b) = b.account
owner_of (PutFate number fate) = 0

-- whether a change puts an account, and not a row of one
abbrev pub is_of_account : Change → Bool
is_of_account (PutAccount a) = true
is_of_account _ = false

-- there is room for so many more accounts, where the change puts one
abbrev pub HasAccountsFor : ℕ → ℕ → Change → Type 0
HasAccountsFor spare count (PutAccount a) = count ≤ spare
HasAccountsFor spare count _ = ⊤

-- there is room for so many more rows in the table that the change puts into
pub record HasRoomFor (room : Room) (count : ℕ) (change : Change) : Type 0 where
  pub accounts : HasAccountsFor room.accounts count change
  pub rows : HasSpareFor (spare_of room (owner_of change)) count change

-- there is room for all the changes
abbrev pub HasRoom : Room → List Change → Type 0
HasRoom room changes = All (HasRoomFor room (length changes)) changes

-- an account has at least as much room in each table, but for so many rows
pub record HasLeftSpare (count : ℕ) (before after : Spare) : Type 0 where
  pub campaigns : before.campaigns ≤ after.campaigns + count
  pub budgets : before.budgets ≤ after.budgets + count
  pub lines : before.lines ≤ after.lines + count
  pub negatives : before.negatives ≤ after.negatives + count
  pub batches : before.batches ≤ after.batches + count

pub record HasLeft (count : ℕ) (before after : Room) : Type 0 where
  pub accounts : before.accounts ≤ after.accounts + count
  pub rows : (account : ℕ) → HasLeftSpare count (spare_of before account) (spare_of after account)
