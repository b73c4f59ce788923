-- The ledger's state: its settings, its moment, its edition and its rows.
use Rattle.std.specs.Prelude.{◌≡◌, ℕ, List}
use Rattle.desk_types.specs.declared.rows.Account.{Account}
use Rattle.desk_types.specs.declared.rows.Campaign.{Campaign}
use Rattle.desk_types.specs.declared.rows.Line.{Line}
use Rattle.desk_types.specs.declared.rows.Negative.{Negative}
use Rattle.desk_types.specs.declared.tables.Tables.{Tables}
use Rattle.desk_types.specs.SettingsValue.{SettingsValue}
use Rattle.desk_types.specs.Tables.{no_rows}

-- what a desk knows: it holds rows alone, no totals and no index
pub record State : Type 0 where
  pub settings : SettingsValue
  pub moment : ℕ
  pub edition : ℕ
  pub tables : Tables

-- a state without rows, at the moment 0 and the edition 0
abbrev pub empty : SettingsValue → State
empty settings = record { settings = settings; moment = 0; edition = 0; tables = no_rows }

-- two states are the same but for the moment
abbrev pub IsSameButForMoment : State → State → Type 0
IsSameButForMoment S T = T ≡ record S { moment = T.moment }

-- what searches read of a state beside its money
pub record Catalogue : Type 0 where
  pub accounts : List Account
  pub campaigns : List Campaign
  pub lines : List Line
  pub negatives : List Negative

abbrev pub catalogue : State → Catalogue
catalogue S = record {
  accounts = S.tables.accounts;
  campaigns = S.tables.campaigns;
  lines = S.tables.lines;
  negatives = S.tables.negatives;
}
