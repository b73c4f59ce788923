-- What the judgement on an edit gives: the changes and the reply of an accepted one, or why it is not made.
use Rattle.std.specs.Prelude.{◌≡◌, ℕ, Bool, true, false, not, nat_lt, List, [], ◌∷◌, ◌++◌, Option, None, Some, ⊤}
use Rattle.desk_types.specs.declared.call.Call.{Call}
use Rattle.desk_types.specs.declared.call.Call.TheVariants.{Credit, HostReport, SetBudget, AddLine, SetBid, Import, Report, Shown, Search, Click}
use Rattle.desk_types.specs.declared.limits.TheConstants.{BUDGET_MIN, BUDGET_MAX}
use Rattle.desk_types.specs.declared.refusal.Refusal.{Refusal}
use Rattle.desk_types.specs.declared.refusal.Refusal.TheVariants.{BadField, BadRow, BudgetBelowUsed}
use Rattle.desk_types.specs.declared.refusal.Field.TheVariants as field
use Rattle.desk_types.specs.declared.rows.Placement.{Placement}
use Rattle.desk_types.specs.declared.tables.Change.{Change}
use Rattle.desk_types.specs.declared.tables.Change.TheVariants.{PutAccount, PutCampaign, PutLine, PutNegative}
use Rattle.desk_types.specs.declared.tables.Tables.{Tables}
use Rattle.desk_types.specs.Changes.{changes, reply}
use Rattle.desk_types.specs.Judged.{campaign_row, first, is_within, judged, owner_rows, refusals, used_today, when}
use Rattle.desk_types.specs.Refusal.{number_of}
use Rattle.desk_types.specs.SettingsValue.{usual}
use Rattle.desk_types.specs.State.{State}
use Rattle.accounts.specs.declared.plan.EditFault.{EditFault}
use Rattle.accounts.specs.declared.plan.EditFault.TheVariants.{Refused, NoMemory}
use Rattle.accounts.specs.declared.plan.Plan.{Plan}

-- no refusal of the call holds, and the changes and the reply are those of the accepted call
pub record IsPlanned (S : State) (call : Call) (plan : Plan) : Type 0 where
  pub not_refused : judged S call ≡ None
  pub changed : plan.changes ≡ changes S call
  pub replied : plan.reply ≡ reply S call

-- a refusal is the first of the table that holds; want of memory comes freely
abbrev pub IsFirst : List (Option Refusal) → EditFault → Type 0
IsFirst table (Refused refusal) = first table ≡ Some refusal
IsFirst table NoMemory = ⊤

-- the call stops by the first of its refusals that holds, or for want of memory
abbrev pub IsStop : State → Call → EditFault → Type 0
IsStop S call fault = IsFirst (refusals S call) fault

-- why an import is not made, for why the line of its row of this number is not
abbrev pub in_row : ℕ → EditFault → EditFault
in_row number (Refused cause) = Refused (BadRow number (number_of cause))
in_row number NoMemory = NoMemory

-- these rows at a moment
abbrev pub state_on : Tables → ℕ → State
state_on T moment = record { settings = usual; moment = moment; edition = 0; tables = T }

-- the rows of a state beside these placements, at its moment
abbrev pub beside : List Placement → State → State
beside placements S = state_on (record S.tables { placements = placements }) S.moment

-- so much is used today of the campaign whose budget a call sets
abbrev pub HasUsed : State → Call → ℕ → Type 0
HasUsed S (SetBudget account key campaign amount) used = used_today S account campaign ≡ used
HasUsed S call used = ⊤

-- a state in which a call is judged: it has these rows beside its placements, the moment, and so much used
pub record IsStateOf (T : Tables) (moment used : ℕ) (call : Call) (S : State) : Type 0 where
  pub rows : S.tables ≡ record T { placements = S.tables.placements }
  pub at : S.moment ≡ moment
  pub has_used : HasUsed S call used

-- the refusals of the setting of a budget, of which so much is used today
abbrev pub budget_rows : Tables → ℕ → ℕ → List ℕ → ℕ → ℕ → List (Option Refusal)
budget_rows T used account key campaign amount =
    owner_rows T account key
    ++ campaign_row T account campaign
    ∷ when (not (is_within BUDGET_MIN BUDGET_MAX amount)) (BadField field.Budget)
    ∷ when (nat_lt amount used) (BudgetBelowUsed used)
    ∷ []

-- whether a call changes accounts, campaigns, budgets, lines, negatives or batches
abbrev pub is_edit : Call → Bool
is_edit (Credit placement) = false
is_edit (HostReport day) = false
is_edit (Report account key day) = false
is_edit (Shown account key day from) = false
is_edit (Search text places) = false
is_edit (Click placement) = false
is_edit _ = true

-- whether a call is an edit that reads no placement: the setting of a budget reads what is used
abbrev pub reads_no_placement : Call → Bool
reads_no_placement (SetBudget account key campaign amount) = false
reads_no_placement call = is_edit call

-- whether a call makes lines, or sets the bid of one
abbrev pub is_of_lines : Call → Bool
is_of_lines (AddLine account key campaign bid pattern headline link) = true
is_of_lines (SetBid account key line bid) = true
is_of_lines (Import account key batch rows) = true
is_of_lines _ = false

-- whether a change is of the catalogue: of accounts, campaigns, lines or negatives
abbrev pub is_of_catalogue : Change → Bool
is_of_catalogue (PutAccount a) = true
is_of_catalogue (PutCampaign c) = true
is_of_catalogue (PutLine l) = true
is_of_catalogue (PutNegative n) = true
is_of_catalogue _ = false
