-- Why a call is refused: for each call a table of its refusals in order, of which the first that holds is given.
use Rattle.std.specs.Prelude.{ℕ, ◌+◌, Bool, false, not, ◌==◌, ◌&&◌, nat_le, nat_lt, if◌then◌else◌, List, [], ◌∷◌, length, ◌++◌, Option, None, Some, is_none, find, option_map, bytes_eq}
use Rattle.std.specs.List.{list_any}
use Rattle.query_words.specs.declared.cut.TheConstants.{QUERY_BYTES, QUERY_WORDS}
use Rattle.query_words.specs.Words.{words_of}
use Rattle.match_types.specs.Pattern.{refusal, negative_refusal, negative_text}
use Rattle.match_types.specs.Marks.{trimmed}
use Rattle.match_types.specs.Tests.{is_same_pattern}
use Rattle.auction_types.specs.declared.limits.TheConstants.{BID_MIN, BID_MAX, QUALITY_MIN, QUALITY_MAX, PLACES_MAX}
use Rattle.desk_types.specs.declared.limits.TheConstants.{BUDGET_MIN, BUDGET_MAX, DAY_MAX, BATCH_MAX, ROWS_MAX, ACCOUNTS_MAX, CAMPAIGNS_MAX, LINES_MAX, NEGATIVES_MAX}
use Rattle.desk_types.specs.declared.call.Call.{Call}
use Rattle.desk_types.specs.declared.call.Call.TheVariants.{AddAccount, SetQuality, Suspend, Credit, HostReport, AddCampaign, SetBudget, AddLine, SetBid, Pause, AddNegative, DropNegative, Import, Report, Shown, Search, Click}
use Rattle.desk_types.specs.declared.call.ImportRow.{ImportRow}
use Rattle.desk_types.specs.declared.call.Part.{Part}
use Rattle.desk_types.specs.declared.call.Part.TheVariants.{OfCampaign, OfLine}
use Rattle.desk_types.specs.declared.refusal.Refusal.{Refusal}
use Rattle.desk_types.specs.declared.refusal.Refusal.TheVariants.{BadKey, NoAccount, NoCampaign, NoLine, NoNegative, NoPlacement, BadField, BadPattern, LineThere, NegativeThere, BudgetBelowUsed, NotSettled, AccountsFull, CampaignsFull, LinesFull, NegativesFull, PlacementsFull, QueryTooLong, QueryTooMany, BadRow}
use Rattle.desk_types.specs.declared.refusal.Field.TheVariants as field
use Rattle.desk_types.specs.declared.rows.Batch.{Batch}
use Rattle.desk_types.specs.declared.rows.Line.{Line}
use Rattle.desk_types.specs.declared.rows.Negative.{Negative}
use Rattle.desk_types.specs.declared.rows.Placement.{Placement}
use Rattle.desk_types.specs.declared.tables.Tables.{Tables}
use Rattle.auction_types.specs.AdValue.{AdValue}
pub use Rattle.desk_types.specs.Asked.{AskedLine}
use Rattle.desk_types.specs.Asked.{asked_by, with_line}
use Rattle.desk_types.specs.Day.{day_of}
use Rattle.desk_types.specs.Eligible.{entrants_for}
use Rattle.desk_types.specs.Fields.{is_key, is_headline, is_link}
use Rattle.auction_types.specs.Page.{page}
use Rattle.desk_types.specs.Money.{is_open, used}
use Rattle.desk_types.specs.Refusal.{number_of}
use Rattle.desk_types.specs.State.{State}
use Rattle.desk_types.specs.Tables.{account_of, batch_of, campaign_of, line_of, placement_of, campaigns_of, lines_of, negatives_of}

-- the refusal, where the test holds
abbrev pub when : Bool → Refusal → Option Refusal
when test refused = if test then Some refused else None

-- the first refusal of a table that holds
abbrev pub first : List (Option Refusal) → Option Refusal
first [] = None
first (None ∷ later) = first later
first (Some refused ∷ later) = Some refused

-- whether a number is from the one to the other
abbrev pub is_within : ℕ → ℕ → ℕ → Bool
is_within low high n = nat_le low n && nat_le n high

-- whether the key is that of the account
abbrev pub key_fits : Tables → ℕ → List ℕ → Bool
key_fits T account key = list_any (λ a. a.number == account && bytes_eq a.key key) T.accounts

-- whether a line is of the campaign and has the pattern of this text
abbrev pub is_line_like : ℕ → ℕ → List ℕ → Line → Bool
is_line_like account campaign pattern l =
    l.account == account && (l.campaign == campaign && is_same_pattern l.pattern pattern)

-- the line of the campaign with the same pattern as this text's, if there is one
abbrev pub same_line : Tables → ℕ → ℕ → List ℕ → Option Line
same_line T account campaign pattern = find (is_line_like account campaign (trimmed pattern)) T.lines

-- whether a negative is of the campaign, has the pattern of this text, and lives, or was dropped
abbrev pub is_live_like : ℕ → ℕ → List ℕ → Negative → Bool
is_live_like account campaign pattern n =
    n.account == account && (n.campaign == campaign && (n.live && is_same_pattern n.pattern pattern))

abbrev pub is_dropped_like : ℕ → ℕ → List ℕ → Negative → Bool
is_dropped_like account campaign pattern n =
    n.account == account && (n.campaign == campaign && (not n.live && is_same_pattern n.pattern pattern))

-- the live negative of the campaign with the same pattern as this text's, if there is one, and the dropped one
abbrev pub live_negative : Tables → ℕ → ℕ → List ℕ → Option Negative
live_negative T account campaign pattern = find (is_live_like account campaign (negative_text pattern)) T.negatives

abbrev pub dropped_negative : Tables → ℕ → ℕ → List ℕ → Option Negative
dropped_negative T account campaign pattern =
    find (is_dropped_like account campaign (negative_text pattern)) T.negatives

-- whether the account has a live negative of this number
abbrev pub has_live_negative : Tables → ℕ → ℕ → Bool
has_live_negative T account negative =
    list_any (λ n. n.account == account && (n.number == negative && n.live)) T.negatives

-- the number of places asked for, or that of the settings
abbrev pub places_of : State → Option ℕ → ℕ
places_of S None = S.settings.places
places_of S (Some places) = places

abbrev pub is_bad_places : Option ℕ → Bool
is_bad_places None = false
is_bad_places (Some places) = not (is_within 1 PLACES_MAX places)

-- the ads of the page of a search
abbrev pub page_of : State → List ℕ → Option ℕ → List AdValue
page_of S text places = page (entrants_for S (words_of text)) (places_of S places)

-- the refusal of a call that names an account
abbrev pub account_row : Tables → ℕ → Option Refusal
account_row T account = when (is_none (account_of T account)) NoAccount

-- the refusals of an advertiser's call: the account is not there, or the key is not its own
abbrev pub owner_rows : Tables → ℕ → List ℕ → List (Option Refusal)
owner_rows T account key =
    account_row T account
    ∷ when (not (key_fits T account key)) BadKey
    ∷ []

-- the refusal of a call that names a campaign
abbrev pub campaign_row : Tables → ℕ → ℕ → Option Refusal
campaign_row T account campaign = when (is_none (campaign_of T account campaign)) NoCampaign

-- the refusal of a call that names a line, or either of the two
abbrev pub line_row : Tables → ℕ → ℕ → Option Refusal
line_row T account line = when (is_none (line_of T account line)) NoLine

abbrev pub part_row : Tables → ℕ → Part → Option Refusal
part_row T account (OfCampaign campaign) = campaign_row T account campaign
part_row T account (OfLine line) = line_row T account line

-- the refusals of a line that is asked for
abbrev pub line_rows : Tables → ℕ → AskedLine → List (Option Refusal)
line_rows T account asked =
    campaign_row T account asked.campaign
    ∷ when (not (is_within BID_MIN BID_MAX asked.bid)) (BadField field.Bid)
    ∷ option_map BadPattern (refusal asked.pattern)
    ∷ when (not (is_headline asked.headline)) (BadField field.Headline)
    ∷ when (not (is_link asked.link)) (BadField field.Link)
    ∷ option_map (λ l. LineThere l.number) (same_line T account asked.campaign asked.pattern)
    ∷ when (nat_le LINES_MAX (lines_of T account)) LinesFull
    ∷ []

-- the refusal of the row of an import of this number, which is refused where its line would be
abbrev pub row_refusal : Tables → ℕ → ℕ → ImportRow → Option Refusal
row_refusal T account number row =
    option_map (λ cause. BadRow number (number_of cause)) (first (line_rows T account (asked_by row)))

-- the refusals of the rows of an import, numbered from this number on, each behind the lines of the rows before it
abbrev pub bad_rows : Tables → ℕ → ℕ → List ImportRow → List (Option Refusal)
bad_rows T account number [] = []
bad_rows T account number (row ∷ rows) =
    row_refusal T account number row ∷ bad_rows (with_line T account (asked_by row)) account (number + 1) rows

-- the refusals of an import beside those of its batch's number; where the batch is there, its rows are not judged
abbrev pub import_rows : Tables → ℕ → Option Batch → List ImportRow → List (Option Refusal)
import_rows T account (Some there) rows = []
import_rows T account None rows =
    when (not (is_within 1 ROWS_MAX (length rows))) (BadField field.Rows)
    ∷ bad_rows T account 1 rows

-- the refusals of a negative that is asked for, of a campaign that is there
abbrev pub negative_rows : Tables → ℕ → ℕ → List ℕ → List (Option Refusal)
negative_rows T account campaign pattern =
    option_map BadPattern (negative_refusal pattern)
    ∷ option_map (λ n. NegativeThere n.number) (live_negative T account campaign pattern)
    ∷ when (is_none (dropped_negative T account campaign pattern) && nat_le NEGATIVES_MAX (negatives_of T account))
    NegativesFull
    ∷ []

-- the refusal of a call that names a day
abbrev pub day_row : ℕ → Option Refusal
day_row day = when (nat_lt DAY_MAX day) (BadField field.Day)

-- what is used today of a campaign's budget
abbrev pub used_today : State → ℕ → ℕ → ℕ
used_today S account campaign = used S account campaign (day_of S.moment)

-- whether a placement that is there was not clicked in time
abbrev pub is_unsettled : Option Placement → Bool
is_unsettled (Some p) = is_open p.fate
is_unsettled None = false

-- the refusals of a call, in order
unfoldable pub refusals : State → Call → List (Option Refusal)
refusals S (AddAccount key) =
    when (not (is_key key)) (BadField field.Key)
    ∷ when (nat_le ACCOUNTS_MAX (length S.tables.accounts)) AccountsFull
    ∷ []
refusals S (SetQuality account line quality) =
    account_row S.tables account
    ∷ line_row S.tables account line
    ∷ when (not (is_within QUALITY_MIN QUALITY_MAX quality)) (BadField field.Quality)
    ∷ []
refusals S (Suspend account suspended) =
    account_row S.tables account
    ∷ []
refusals S (Credit placement) =
    when (is_none (placement_of S.tables placement)) NoPlacement
    ∷ when (is_unsettled (placement_of S.tables placement)) NotSettled
    ∷ []
refusals S (HostReport day) =
    day_row day
    ∷ []
refusals S (AddCampaign account key budget) =
    owner_rows S.tables account key
    ++ when (not (is_within BUDGET_MIN BUDGET_MAX budget)) (BadField field.Budget)
    ∷ when (nat_le CAMPAIGNS_MAX (campaigns_of S.tables account)) CampaignsFull
    ∷ []
refusals S (SetBudget account key campaign amount) =
    owner_rows S.tables account key
    ++ campaign_row S.tables account campaign
    ∷ when (not (is_within BUDGET_MIN BUDGET_MAX amount)) (BadField field.Budget)
    ∷ when (nat_lt amount (used_today S account campaign)) (BudgetBelowUsed (used_today S account campaign))
    ∷ []
refusals S (AddLine account key campaign bid pattern headline link) =
    owner_rows S.tables account key
    ++ line_rows S.tables account
    (record { campaign = campaign; bid = bid; pattern = pattern; headline = headline; link = link })
refusals S (SetBid account key line bid) =
    owner_rows S.tables account key
    ++ line_row S.tables account line
    ∷ when (not (is_within BID_MIN BID_MAX bid)) (BadField field.Bid)
    ∷ []
refusals S (Pause account key part on) =
    owner_rows S.tables account key
    ++ part_row S.tables account part
    ∷ []
refusals S (AddNegative account key campaign pattern) =
    owner_rows S.tables account key
    ++ campaign_row S.tables account campaign
    ∷ negative_rows S.tables account campaign pattern
refusals S (DropNegative account key negative) =
    owner_rows S.tables account key
    ++ when (not (has_live_negative S.tables account negative)) NoNegative
    ∷ []
refusals S (Import account key batch rows) =
    owner_rows S.tables account key
    ++ when (not (is_within 1 BATCH_MAX batch)) (BadField field.Batch)
    ∷ import_rows S.tables account (batch_of S.tables account batch) rows
refusals S (Report account key day) =
    owner_rows S.tables account key
    ++ day_row day
    ∷ []
refusals S (Shown account key day from) =
    owner_rows S.tables account key
    ++ day_row day
    ∷ []
refusals S (Search text places) =
    when (nat_lt QUERY_BYTES (length text)) (QueryTooLong (length text))
    ∷ when (nat_lt QUERY_WORDS (length (words_of text))) (QueryTooMany (length (words_of text)))
    ∷ when (is_bad_places places) (BadField field.Places)
    ∷ when (nat_lt S.settings.placements (length S.tables.placements + length (page_of S text places))) PlacementsFull
    ∷ []
refusals S (Click placement) =
    when (is_none (placement_of S.tables placement)) NoPlacement
    ∷ []

-- the refusal of a call, if it is refused
abbrev pub judged : State → Call → Option Refusal
judged S call = first (refusals S call)
