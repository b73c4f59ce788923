-- What a call adds to the bytes of the journal.
use Rattle.std.specs.Prelude.{ℕ, ◌+◌, ◌-◌, ◌^◌, min, length, sum_by}
use Rattle.desk_types.specs.declared.limits.TheConstants.{ROW_WEIGHT}
use Rattle.desk_types.specs.declared.call.Call.{Call}
use Rattle.desk_types.specs.declared.call.Call.TheVariants.{AddAccount, SetQuality, Suspend, Credit, HostReport, AddCampaign, SetBudget, AddLine, SetBid, Pause, AddNegative, DropNegative, Import, Report, Shown, Search, Click}
use Rattle.desk_types.specs.declared.call.ImportRow.{ImportRow}

-- a row of an import: the bytes of its texts, and what each row counts beside them
abbrev pub row_weight : ImportRow → ℕ
row_weight row = length row.pattern + length row.headline + length row.link + ROW_WEIGHT

-- the bytes of the texts of a call, the key among them, and what its rows count
abbrev pub bytes_in : Call → ℕ
bytes_in (AddAccount key) = length key
bytes_in (SetQuality account line quality) = 0
bytes_in (Suspend account suspended) = 0
bytes_in (Credit placement) = 0
bytes_in (HostReport day) = 0
bytes_in (AddCampaign account key budget) = length key
bytes_in (SetBudget account key campaign amount) = length key
bytes_in (AddLine account key campaign bid pattern headline link) =
    length key + length pattern + length headline + length link
bytes_in (SetBid account key line bid) = length key
bytes_in (Pause account key part on) = length key
bytes_in (AddNegative account key campaign pattern) = length key + length pattern
bytes_in (DropNegative account key negative) = length key
bytes_in (Import account key batch rows) = length key + sum_by row_weight rows
bytes_in (Report account key day) = length key
bytes_in (Shown account key day from) = length key
bytes_in (Search text places) = length text
bytes_in (Click placement) = 0

-- these together; a greater sum than the greatest `u64` counts as that
abbrev pub weight : Call → ℕ
weight call = min (bytes_in call) (2 ^ 64 - 1)
