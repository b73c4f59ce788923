-- What a state has of one account, and the reply to its advertiser that is read from that alone.
use Rattle.std.specs.Prelude.{◌≡◌, ℕ, Option, None, Some, Result, IfOk}
use Rattle.desk_types.specs.declared.call.Call.{Call}
use Rattle.desk_types.specs.declared.call.Call.TheVariants.{AddAccount, SetQuality, Suspend, Credit, HostReport, AddCampaign, SetBudget, AddLine, SetBid, Pause, AddNegative, DropNegative, Import, Report, Shown, Search, Click}
use Rattle.desk_types.specs.declared.entry.Fault.{Fault}
use Rattle.desk_types.specs.declared.reply.Reply.{Reply}
use Rattle.desk_types.specs.declared.tables.Tables.{Tables}
use Rattle.desk_types.specs.Own.{rows_of}
use Rattle.desk_types.specs.SettingsValue.{SettingsValue}
use Rattle.desk_types.specs.State.{State}
use Rattle.desk_types.specs.Step.{step}

-- what a state has of an account: its rows, beside the settings and the moment
pub record Own : Type 0 where
  pub settings : SettingsValue
  pub moment : ℕ
  pub rows : Tables

abbrev pub own : State → ℕ → Own
own S account = record { settings = S.settings; moment = S.moment; rows = rows_of S.tables account }

-- the state that has these rows alone
abbrev pub state_of_own : Own → State
state_of_own O = record { settings = O.settings; moment = O.moment; edition = 0; tables = O.rows }

-- the reply to a call, with the moment that is handed in, where there are these rows alone
unfoldable pub own_reply : Own → ℕ → Call → Reply
own_reply O moment call = (step (state_of_own O) moment call).reply

-- the account whose advertiser makes the call; a call of the host or of the public is none's
abbrev pub advertiser_of : Call → Option ℕ
advertiser_of (AddAccount key) = None
advertiser_of (SetQuality account line quality) = None
advertiser_of (Suspend account suspended) = None
advertiser_of (Credit placement) = None
advertiser_of (HostReport day) = None
advertiser_of (AddCampaign account key budget) = Some account
advertiser_of (SetBudget account key campaign amount) = Some account
advertiser_of (AddLine account key campaign bid pattern headline link) = Some account
advertiser_of (SetBid account key line bid) = Some account
advertiser_of (Pause account key part on) = Some account
advertiser_of (AddNegative account key campaign pattern) = Some account
advertiser_of (DropNegative account key negative) = Some account
advertiser_of (Import account key batch rows) = Some account
advertiser_of (Report account key day) = Some account
advertiser_of (Shown account key day from) = Some account
advertiser_of (Search text places) = None
advertiser_of (Click placement) = None

-- an advertiser's call, made in this state, is replied to by what the state has of the account
unfoldable pub IsByOwnRows : State → ℕ → Call → Result Reply Fault → Type 0
IsByOwnRows S moment call result =
    (account : ℕ) → advertiser_of call ≡ Some account →
    IfOk result (λ reply. reply ≡ own_reply (own S account) moment call)
