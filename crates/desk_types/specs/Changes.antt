-- What an accepted call changes, and what it answers.
use Rattle.std.specs.Prelude.{ℕ, ◌+◌, Bool, true, false, if◌then◌else◌, List, [], ◌∷◌, ◌++◌, length, map, Option, None, Some, is_none, option_map, unwrap_or}
use Rattle.query_words.specs.Words.{words_of}
use Rattle.match_types.specs.Pattern.{negative_text}
use Rattle.desk_types.specs.declared.limits.TheConstants.{CLICK_WINDOW}
use Rattle.desk_types.specs.declared.call.Call.{Call}
use Rattle.desk_types.specs.declared.call.Call.TheVariants.{AddAccount, SetQuality, Suspend, Credit, HostReport, AddCampaign, SetBudget, AddLine, SetBid, Pause, AddNegative, DropNegative, Import, Report, Shown, Search, Click}
use Rattle.desk_types.specs.declared.call.ImportRow.{ImportRow}
use Rattle.desk_types.specs.declared.call.Part.{Part}
use Rattle.desk_types.specs.declared.call.Part.TheVariants.{OfCampaign, OfLine}
use Rattle.desk_types.specs.declared.reply.Reply.{Reply}
use Rattle.desk_types.specs.declared.reply.Reply.TheVariants.{Made, Done, Credited, HostDay, Imported, Day, ShownRows, Page, Went}
use Rattle.desk_types.specs.declared.reply.Spot.{Spot}
use Rattle.desk_types.specs.declared.rows.Batch.{Batch}
use Rattle.desk_types.specs.declared.rows.Fate.{Fate}
use Rattle.desk_types.specs.declared.rows.Fate.TheVariants as fate
use Rattle.desk_types.specs.declared.rows.Negative.{Negative}
use Rattle.desk_types.specs.declared.rows.Placement.{Placement}
use Rattle.desk_types.specs.declared.tables.Change.{Change}
use Rattle.desk_types.specs.declared.tables.Change.TheVariants.{PutAccount, PutCampaign, PutBudget, PutLine, PutNegative, PutPlacement, PutBatch, PutFate}
use Rattle.desk_types.specs.declared.tables.Tables.{Tables}
use Rattle.auction_types.specs.AdValue.{AdValue}
pub use Rattle.desk_types.specs.Asked.{line_made}
use Rattle.desk_types.specs.Asked.{lines_made}
use Rattle.desk_types.specs.Eligible.{entrants_for}
use Rattle.desk_types.specs.Judged.{dropped_negative, page_of}
use Rattle.desk_types.specs.Money.{is_escrowed}
use Rattle.auction_types.specs.Page.{place}
use Rattle.auction_types.specs.Price.{price}
use Rattle.desk_types.specs.Reports.{day_report, host_day, statement}
use Rattle.desk_types.specs.State.{State}
use Rattle.desk_types.specs.Tables.{account_of, batch_of, campaign_of, campaigns_of, line_of, lines_of, negative_of, negatives_of, placement_of}

-- a dropped negative that lives again, or else the account's next one
abbrev pub live_again : Negative → Option Negative → Negative
live_again new (Some dropped) = record dropped { live = true }
live_again new None = new

-- the negative that a campaign gets for a text: the dropped one of the same pattern lives again, or a new one is made
abbrev pub negative_made : Tables → ℕ → ℕ → List ℕ → Negative
negative_made T account campaign pattern =
    live_again (record {
      account = account;
      number = negatives_of T account + 1;
      campaign = campaign;
      pattern = negative_text pattern;
      live = true;
    }) (dropped_negative T account campaign pattern)

-- a negative is dropped
abbrev pub drop_of : Option Negative → List Change
drop_of (Some n) = PutNegative (record n { live = false }) ∷ []
drop_of None = []

-- a row that is found is put with a change to it
abbrev pub put_found : {A : Type 0} → (A → Change) → Option A → List Change
put_found changed (Some row) = changed row ∷ []
put_found changed None = []

-- a campaign or a line is switched off or on
abbrev pub switch_of : Tables → ℕ → Part → Bool → List Change
switch_of T account (OfCampaign campaign) on =
    put_found (λ c. PutCampaign (record c { on = on })) (campaign_of T account campaign)
switch_of T account (OfLine line) on = put_found (λ l. PutLine (record l { on = on })) (line_of T account line)

-- the batch of an import: the one that is there, or the one whose lines its rows make
abbrev pub batch_made : Tables → ℕ → ℕ → List ImportRow → Option Batch → Batch
batch_made T account number rows (Some there) = there
batch_made T account number rows None =
    record { account = account; number = number; first = lines_of T account + 1; count = length rows }

-- an import puts the lines of its rows and the batch, or nothing where the batch is there
abbrev pub import_of : Tables → ℕ → ℕ → List ImportRow → Option Batch → List Change
import_of T account number rows (Some there) = []
import_of T account number rows None =
    map PutLine (lines_made T account rows) ++ PutBatch (batch_made T account number rows None) ∷ []

-- the link and the headline of a line
abbrev pub link_of : Tables → ℕ → ℕ → List ℕ
link_of T account line = unwrap_or (option_map (λ l. l.link) (line_of T account line)) []

abbrev pub headline_of : Tables → ℕ → ℕ → List ℕ
headline_of T account line = unwrap_or (option_map (λ l. l.headline) (line_of T account line)) []

-- the placement of an ad that enters with others, at its place and its price
abbrev pub placed : State → List AdValue → ℕ → AdValue → Placement
placed S entered number a = record {
  number = number;
  account = a.account;
  campaign = a.campaign;
  line = a.line;
  place = place entered a;
  bid = a.bid;
  price = price S.settings.reserve S.settings.floor entered a;
  shown = S.moment;
  deadline = S.moment + CLICK_WINDOW;
  fate = fate.Open;
}

-- the placements of the ads of a page, numbered from this number on
abbrev pub all_placed : State → List AdValue → ℕ → List AdValue → List Placement
all_placed S entered number [] = []
all_placed S entered number (a ∷ ads) = placed S entered number a ∷ all_placed S entered (number + 1) ads

-- the placements of a search: one for each place of its page, with the next numbers
abbrev pub placements_for : State → List ℕ → Option ℕ → List Placement
placements_for S text places =
    all_placed S (entrants_for S (words_of text)) (length S.tables.placements + 1) (page_of S text places)

-- what the page shows of a placement
abbrev pub spot_of : Tables → Placement → Spot
spot_of T p = record {
  place = p.place;
  placement = p.number;
  account = p.account;
  campaign = p.campaign;
  line = p.line;
  headline = headline_of T p.account p.line;
  link = link_of T p.account p.line;
  price = p.price;
}

-- the link to which a click on a placement goes
abbrev pub link_clicked : Tables → ℕ → List ℕ
link_clicked T placement =
    unwrap_or (option_map (λ p. link_of T p.account p.line) (placement_of T placement)) []

-- a click settles a placement whose price is escrowed, and no other
abbrev pub settlement : ℕ → Option Placement → List Change
settlement moment (Some p) = if is_escrowed moment p then PutFate p.number (fate.Settled moment) ∷ [] else []
settlement moment None = []

-- the host credits a placement that a click settled, once
abbrev pub credit_on : ℕ → ℕ → Fate → List Change
credit_on moment number fate.Open = []
credit_on moment number (fate.Settled at) = PutFate number (fate.Credited at moment) ∷ []
credit_on moment number (fate.Credited settled credited) = []

abbrev pub credit_of : ℕ → Option Placement → List Change
credit_of moment (Some p) = credit_on moment p.number p.fate
credit_of moment None = []

-- the price of a placement
abbrev pub price_of : Tables → ℕ → ℕ
price_of T placement = unwrap_or (option_map (λ p. p.price) (placement_of T placement)) 0

-- the changes of an accepted call, in order
unfoldable pub changes : State → Call → List Change
changes S (AddAccount key) =
    PutAccount (record { number = length S.tables.accounts + 1; key = key; suspended = false }) ∷ []
changes S (SetQuality account line quality) =
    put_found (λ l. PutLine (record l { quality = quality })) (line_of S.tables account line)
changes S (Suspend account suspended) =
    put_found (λ a. PutAccount (record a { suspended = suspended })) (account_of S.tables account)
changes S (Credit placement) = credit_of S.moment (placement_of S.tables placement)
changes S (HostReport day) = []
changes S (AddCampaign account key budget) =
    let number = campaigns_of S.tables account + 1 in
    PutCampaign (record { account = account; number = number; on = true })
    ∷ PutBudget (record { account = account; campaign = number; at = S.moment; amount = budget })
    ∷ []
changes S (SetBudget account key campaign amount) =
    PutBudget (record { account = account; campaign = campaign; at = S.moment; amount = amount }) ∷ []
changes S (AddLine account key campaign bid pattern headline link) =
    PutLine (line_made S.tables account
    (record { campaign = campaign; bid = bid; pattern = pattern; headline = headline; link = link })) ∷ []
changes S (SetBid account key line bid) =
    put_found (λ l. PutLine (record l { bid = bid })) (line_of S.tables account line)
changes S (Pause account key part on) = switch_of S.tables account part on
changes S (AddNegative account key campaign pattern) =
    PutNegative (negative_made S.tables account campaign pattern) ∷ []
changes S (DropNegative account key negative) = drop_of (negative_of S.tables account negative)
changes S (Import account key batch rows) =
    import_of S.tables account batch rows (batch_of S.tables account batch)
changes S (Report account key day) = []
changes S (Shown account key day from) = []
changes S (Search text places) = map PutPlacement (placements_for S text places)
changes S (Click placement) = settlement S.moment (placement_of S.tables placement)

-- the reply to an accepted call
unfoldable pub reply : State → Call → Reply
reply S (AddAccount key) = Made (length S.tables.accounts + 1)
reply S (SetQuality account line quality) = Done
reply S (Suspend account suspended) = Done
reply S (Credit placement) = Credited (price_of S.tables placement)
reply S (HostReport day) = HostDay (host_day S day)
reply S (AddCampaign account key budget) = Made (campaigns_of S.tables account + 1)
reply S (SetBudget account key campaign amount) = Done
reply S (AddLine account key campaign bid pattern headline link) = Made (lines_of S.tables account + 1)
reply S (SetBid account key line bid) = Done
reply S (Pause account key part on) = Done
reply S (AddNegative account key campaign pattern) = Made (negative_made S.tables account campaign pattern).number
reply S (DropNegative account key negative) = Done
reply S (Import account key batch rows) =
    let b = batch_made S.tables account batch rows (batch_of S.tables account batch) in
    Imported b.first b.count
reply S (Report account key day) = Day (day_report S account day)
reply S (Shown account key day from) = ShownRows (statement S account day from)
reply S (Search text places) = Page (map (spot_of S.tables) (placements_for S text places))
reply S (Click placement) = Went (link_clicked S.tables placement)

-- whether the edition rises with an accepted call
unfoldable pub raises_edition : State → Call → Bool
raises_edition S (AddAccount key) = true
raises_edition S (SetQuality account line quality) = true
raises_edition S (Suspend account suspended) = true
raises_edition S (Credit placement) = false
raises_edition S (HostReport day) = false
raises_edition S (AddCampaign account key budget) = true
raises_edition S (SetBudget account key campaign amount) = false
raises_edition S (AddLine account key campaign bid pattern headline link) = true
raises_edition S (SetBid account key line bid) = true
raises_edition S (Pause account key part on) = true
raises_edition S (AddNegative account key campaign pattern) = true
raises_edition S (DropNegative account key negative) = true
raises_edition S (Import account key batch rows) = is_none (batch_of S.tables account batch)
raises_edition S (Report account key day) = false
raises_edition S (Shown account key day from) = false
raises_edition S (Search text places) = false
raises_edition S (Click placement) = false
