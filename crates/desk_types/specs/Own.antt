-- The rows of one account, and the account that a call names.
use Rattle.std.specs.Prelude.{ℕ, ◌==◌, Option, None, Some, filter}
use Rattle.desk_types.specs.declared.call.Call.{Call}
use Rattle.desk_types.specs.declared.call.Call.TheVariants.{AddAccount, SetQuality, Suspend, Credit, HostReport, AddCampaign, SetBudget, AddLine, SetBid, Pause, AddNegative, DropNegative, Import, Report, Shown, Search, Click}
use Rattle.desk_types.specs.declared.tables.Tables.{Tables}

-- the account of this number and its rows
abbrev pub rows_of : Tables → ℕ → Tables
rows_of T account = record {
  accounts = filter (λ a. a.number == account) T.accounts;
  campaigns = filter (λ c. c.account == account) T.campaigns;
  budgets = filter (λ b. b.account == account) T.budgets;
  lines = filter (λ l. l.account == account) T.lines;
  negatives = filter (λ n. n.account == account) T.negatives;
  placements = filter (λ p. p.account == account) T.placements;
  batches = filter (λ b. b.account == account) T.batches;
}

-- the account that a call names, if it names one
abbrev pub account_named : Call → Option ℕ
account_named (AddAccount key) = None
account_named (SetQuality account line quality) = Some account
account_named (Suspend account suspended) = Some account
account_named (Credit placement) = None
account_named (HostReport day) = None
account_named (AddCampaign account key budget) = Some account
account_named (SetBudget account key campaign amount) = Some account
account_named (AddLine account key campaign bid pattern headline link) = Some account
account_named (SetBid account key line bid) = Some account
account_named (Pause account key part on) = Some account
account_named (AddNegative account key campaign pattern) = Some account
account_named (DropNegative account key negative) = Some account
account_named (Import account key batch rows) = Some account
account_named (Report account key day) = Some account
account_named (Shown account key day from) = Some account
account_named (Search text places) = None
account_named (Click placement) = None
