-- What a message asks for, by what its target names.
use Rattle.std.specs.Prelude.{◌≡◌, ℕ, Bool, if◌then◌else◌, List, [], ◌∷◌, bytes_eq, codes, Option, Some, None, option_map, option_and_then, unwrap_or, Result, Ok, Err}
use Rattle.std.specs.Str.{is_utf8}
use Rattle.std.specs.Str.Lossy.{utf8_lossy}
use Rattle.form_urlencoded.specs.Form.{decode, raw_pairs}
use Rattle.serde_json.specs.Data.{Data}
use Rattle.serde_json.specs.Find.{get, as_bool, as_number, as_str, as_u64}
use Rattle.serde_json.specs.Read.{read}
use Rattle.desk_io.specs.Number.{number}
use Rattle.desk_types.specs.declared.call.Call.{Call}
use Rattle.desk_types.specs.declared.call.Call.TheVariants.{AddAccount, SetQuality, Suspend, Credit, HostReport, AddCampaign, SetBudget, AddLine, SetBid, Pause, AddNegative, DropNegative, Import, Report, Shown, Search, Click}
use Rattle.desk_types.specs.declared.call.ImportRow.{ImportRow}
use Rattle.desk_types.specs.declared.call.Part.{Part}
use Rattle.desk_types.specs.declared.call.Part.TheVariants.{OfCampaign, OfLine}
use Rattle.csv_import.specs.declared.fault.CsvFault.{CsvFault}
use Rattle.csv_import.specs.declared.fault.CsvFault.TheVariants as csv
use Rattle.csv_import.specs.ImportFile.{Tells}
use Rattle.http_api.specs.declared.judgement.Judgement.TheVariants.{BadQuery, BadBody, BadCsv}
use Rattle.http_api.specs.declared.resource.Resource.{Resource}
use Rattle.http_api.specs.declared.resource.Resource.TheVariants as names
use Rattle.http_api.specs.declared.resource.HostResource.{HostResource}
use Rattle.http_api.specs.declared.resource.HostResource.TheVariants as host
use Rattle.http_api.specs.declared.resource.AccountResource.{AccountResource}
use Rattle.http_api.specs.declared.resource.AccountResource.TheVariants as asked
use Rattle.http_api.specs.declared.verdict.Verdict.{Verdict}
use Rattle.http_api.specs.declared.verdict.Verdict.TheVariants.{Asks, Fails}

-- what a body of JSON tells, where it is one
abbrev pub json_of : List ℕ → Option Data
json_of body = if is_utf8 body then read body else None

-- the member of a name: of one that stands more than once, the last
abbrev pub member : List ℕ → Option Data → Option Data
member name told = option_and_then (get name) told

-- a number is one of digits alone, below 2^64
abbrev pub number_member : List ℕ → Option Data → Option ℕ
number_member name told = option_and_then as_u64 (option_and_then as_number (member name told))

abbrev pub text_member : List ℕ → Option Data → Option (List ℕ)
text_member name told = option_and_then as_str (member name told)

abbrev pub flag_member : List ℕ → Option Data → Option Bool
flag_member name told = option_and_then as_bool (member name told)

-- what is made of one thing more, where all are there
abbrev pub given : {A B : Type 0} → Option (A → B) → Option A → Option B
given (Some make) (Some part) = Some (make part)
given (Some make) None = None
given None part = None

-- the part of an account that is paused: a campaign or a line, and not both
abbrev pub part_named : Option Data → Option Data → Option Part
part_named (Some campaign) None = option_map OfCampaign (option_and_then as_u64 (as_number campaign))
part_named None (Some line) = option_map OfLine (option_and_then as_u64 (as_number line))
part_named (Some campaign) (Some line) = None
part_named None None = None

abbrev pub part_asked : Option Data → Option Part
part_asked told = part_named (member (codes "campaign") told) (member (codes "line") told)

-- a call of the host
unfoldable pub host_asked : HostResource → Option Data → Option Call
host_asked host.AddAccount told = option_map (λ key. AddAccount key) (text_member (codes "key") told)
host_asked host.SetQuality told =
    let make = λ (account line quality : ℕ). SetQuality account line quality in
    given (given (option_map make (number_member (codes "account") told)) (number_member (codes "line") told))
    (number_member (codes "quality") told)
host_asked host.Suspend told =
    let make = λ (account : ℕ) (suspended : Bool). Suspend account suspended in
    given (option_map make (number_member (codes "account") told)) (flag_member (codes "suspended") told)
host_asked (host.Credit placement) told = Some (Credit placement)
host_asked (host.Report day) told = Some (HostReport day)

-- `{"bid":n,"campaign":n,"headline":text,"link":text,"pattern":text}`
abbrev pub line_asked : ℕ → List ℕ → Option Data → Option Call
line_asked account key told =
    let campaign = number_member (codes "campaign") told in
    let bid = number_member (codes "bid") told in
    let pattern = text_member (codes "pattern") told in
    let headline = text_member (codes "headline") told in
    let link = text_member (codes "link") told in
    let make = λ (campaign bid : ℕ) (pattern headline link : List ℕ). AddLine account key campaign bid pattern headline link in
    given (given (given (given (option_map make campaign) bid) pattern) headline) link

-- a call of the advertiser of an account, by a key
unfoldable pub account_asked : ℕ → List ℕ → AccountResource → Option Data → Option Call
account_asked account key asked.AddCampaign told =
    option_map (λ budget. AddCampaign account key budget) (number_member (codes "budget") told)
account_asked account key asked.SetBudget told =
    let make = λ (campaign amount : ℕ). SetBudget account key campaign amount in
    given (option_map make (number_member (codes "campaign") told))
    (number_member (codes "amount") told)
account_asked account key asked.AddLine told = line_asked account key told
account_asked account key asked.SetBid told =
    let make = λ (line bid : ℕ). SetBid account key line bid in
    given (option_map make (number_member (codes "line") told)) (number_member (codes "bid") told)
account_asked account key asked.Pause told =
    let make = λ (part : Part) (on : Bool). Pause account key part on in
    given (option_map make (part_asked told)) (flag_member (codes "on") told)
account_asked account key asked.AddNegative told =
    let make = λ (campaign : ℕ) (pattern : List ℕ). AddNegative account key campaign pattern in
    given (option_map make (number_member (codes "campaign") told))
    (text_member (codes "pattern") told)
account_asked account key (asked.DropNegative negative) told = Some (DropNegative account key negative)
account_asked account key (asked.Report day) told = Some (Report account key day)

-- the text of a name or a value of a query
abbrev pub form_text : List ℕ → List ℕ
form_text bytes = utf8_lossy (decode bytes)

-- the first value of a name
unfoldable pub first_named : List ℕ → List (List ℕ × List ℕ) → Option (List ℕ)
first_named name [] = None
first_named name (pair ∷ more) =
    if bytes_eq (form_text pair.0) name then Some (form_text pair.1) else first_named name more

abbrev pub query_value : List ℕ → List ℕ → Option (List ℕ)
query_value name query = first_named name (raw_pairs query)

-- the number that a value spells: none given where it is missing or empty
abbrev pub number_told : Option (List ℕ) → Option (Option ℕ)
number_told None = Some None
number_told (Some []) = Some None
number_told (Some (byte ∷ more)) = option_map Some (number (byte ∷ more))

-- the places that a query asks for, and the placement from which on it asks, which is 0 where none is given
abbrev pub places_asked : List ℕ → Option (Option ℕ)
places_asked query = number_told (query_value (codes "n") query)

abbrev pub from_asked : List ℕ → Option ℕ
from_asked query = option_map (λ given. unwrap_or given 0) (number_told (query_value (codes "from") query))

-- the text that a query asks for, empty where it is missing
abbrev pub text_asked : List ℕ → List ℕ
text_asked query = unwrap_or (query_value (codes "q") query) []

-- the calls that a query asks for, where its number is one
abbrev pub search_asked : List ℕ → Option Call
search_asked query = option_map (λ places. Search (text_asked query) places) (places_asked query)

abbrev pub shown_asked : ℕ → List ℕ → ℕ → List ℕ → Option Call
shown_asked account key day query = option_map (λ from. Shown account key day from) (from_asked query)

-- the verdict by the call of a query, and by that of a body
abbrev pub by_query : Option Call → Verdict
by_query (Some call) = Asks call
by_query None = Fails BadQuery

abbrev pub by_body : Option Call → Verdict
by_body (Some call) = Asks call
by_body None = Fails BadBody

-- the verdict by what the file of an import tells: of a bad record its number is told
abbrev pub by_file : ℕ → List ℕ → ℕ → Result (List ImportRow) CsvFault → Verdict
by_file account key batch (Ok rows) = Asks (Import account key batch rows)
by_file account key batch (Err (csv.Row place)) = Fails (BadCsv (Some place))
by_file account key batch (Err csv.Heading) = Fails (BadCsv None)
by_file account key batch (Err csv.TooMany) = Fails (BadCsv None)
by_file account key batch (Err csv.NoMemory) = Fails (BadCsv None)

-- the verdict for a resource, by the key of the message, its query and its body
abbrev pub IsVerdictFor : Resource → List ℕ → List ℕ → List ℕ → Verdict → Type 0
IsVerdictFor (names.Host resource) key query body verdict = verdict ≡ by_body (host_asked resource (json_of body))
IsVerdictFor (names.Account account resource) key query body verdict =
    verdict ≡ by_body (account_asked account key resource (json_of body))
IsVerdictFor (names.Import account batch) key query body verdict =
    (told : Result (List ImportRow) CsvFault) × Tells body told × (verdict ≡ by_file account key batch told)
IsVerdictFor (names.Shown account day) key query body verdict = verdict ≡ by_query (shown_asked account key day query)
IsVerdictFor names.Search key query body verdict = verdict ≡ by_query (search_asked query)
IsVerdictFor (names.Click placement) key query body verdict = verdict ≡ Asks (Click placement)
