-- The call whose parts stand in a line.
use Rattle.std.specs.Prelude.{◌≡◌, ℕ, List, Option, Some, None}
use Rattle.desk_types.specs.declared.call.Call.{Call}
use Rattle.desk_types.specs.declared.call.Call.TheVariants.{AddAccount, SetQuality, Suspend, Credit, HostReport, AddCampaign, SetBudget, AddLine, SetBid, Pause, AddNegative, DropNegative, Report, Shown, Search, Click}
use Rattle.script_api.specs.declared.parts.AdvertiserParts.{AdvertiserParts}
use Rattle.script_api.specs.declared.parts.AdvertiserParts.TheVariants as asked
use Rattle.script_api.specs.declared.parts.CallParts.{CallParts}
use Rattle.script_api.specs.declared.parts.CallParts.TheVariants as part
use Rattle.script_api.specs.declared.parts.HostParts.{HostParts}
use Rattle.script_api.specs.declared.parts.HostParts.TheVariants as host
use Rattle.script_api.specs.declared.parts.LineParts.{LineParts}

-- the call of the host that has these parts
abbrev pub host_call_of : HostParts → Call
host_call_of (host.AddAccount key) = AddAccount key.now
host_call_of (host.SetQuality account line quality) = SetQuality account line quality
host_call_of (host.Suspend account suspended) = Suspend account suspended
host_call_of (host.Credit placement) = Credit placement
host_call_of (host.HostReport day) = HostReport day

-- the call of the advertiser of an account, by its key, that has these parts
abbrev pub line_call_of : ℕ → List ℕ → LineParts → Call
line_call_of account key parts =
    AddLine account key parts.campaign parts.bid parts.pattern.now parts.headline.now parts.link.now

abbrev pub advertiser_call_of : ℕ → List ℕ → AdvertiserParts → Call
advertiser_call_of account key (asked.AddCampaign budget) = AddCampaign account key budget
advertiser_call_of account key (asked.SetBudget campaign amount) = SetBudget account key campaign amount
advertiser_call_of account key (asked.AddLine parts) = line_call_of account key parts
advertiser_call_of account key (asked.SetBid line bid) = SetBid account key line bid
advertiser_call_of account key (asked.Pause part on) = Pause account key part on
advertiser_call_of account key (asked.AddNegative campaign pattern) = AddNegative account key campaign pattern.now
advertiser_call_of account key (asked.DropNegative negative) = DropNegative account key negative
advertiser_call_of account key (asked.Report day) = Report account key day
advertiser_call_of account key (asked.Shown day from) = Shown account key day from

-- the call of these parts
abbrev pub call_of : CallParts → Call
call_of (part.Host parts) = host_call_of parts
call_of (part.Advertiser account key parts) = advertiser_call_of account key.now parts
call_of (part.Search text places) = Search text.now places
call_of (part.Click placement) = Click placement

-- what is spelled is the call of these parts, or nothing
abbrev pub Spells : Option Call → Option CallParts → Type 0
Spells spelled None = spelled ≡ None
Spells spelled (Some parts) = spelled ≡ Some (call_of parts)
