-- Worked examples of the ledger, computed.
use Rattle.std.proofs.Common.{◌≡◌, ℕ, true, false, map, List, [], ◌∷◌, ◌++◌, None, refl}
use Rattle.std.specs.Prelude.{codes, pos, ◌-ℤ◌, ◌^◌}
use lib.Utf8.{encode}
use Rattle.std.specs.Str.{chars}
use Rattle.caseless.proofs.Computing.{caseless}
use Rattle.unicode_normalization.proofs.Computing.{unicode_normalization}
use Rattle.query_words.specs.Words.{words_of}
use Rattle.match_types.specs.Marks.{trimmed}
use Rattle.match_types.specs.Pattern.{refusal}
use Rattle.match_types.specs.Tests.{meets, is_same_pattern}
use Rattle.desk_types.specs.declared.call.Call.{Call}
use Rattle.desk_types.specs.declared.call.Call.TheVariants.{AddAccount, SetQuality, Suspend, Credit, HostReport, AddCampaign, SetBudget, AddLine, SetBid, Pause, AddNegative, DropNegative, Import, Report, Shown, Search, Click}
use Rattle.desk_types.specs.declared.call.ImportRow.{ImportRow}
use Rattle.desk_types.specs.declared.call.Part.TheVariants.{OfCampaign, OfLine}
use Rattle.desk_types.specs.declared.refusal.Refusal.TheVariants as refused
use Rattle.desk_types.specs.declared.refusal.Field.TheVariants as field
use Rattle.desk_types.specs.declared.reply.Reply.{Reply}
use Rattle.desk_types.specs.declared.reply.Reply.TheVariants.{Made, Done, Credited, HostDay, Imported, Day, ShownRows, Page, Went, Refused}
use Rattle.desk_types.specs.declared.reply.CampaignDay.{CampaignDay}
use Rattle.desk_types.specs.declared.reply.ShownFate.TheVariants as told
use Rattle.desk_types.specs.declared.reply.ShownFate.{ShownFate}
use Rattle.desk_types.specs.declared.reply.ShownRow.{ShownRow}
use Rattle.desk_types.specs.declared.reply.Spot.{Spot}
use Rattle.desk_types.specs.declared.rows.Fate.TheVariants.{Settled}
use Rattle.desk_types.specs.declared.rows.Placement.{Placement}
use Rattle.desk_types.specs.Changes.{changes, raises_edition, reply}
use Rattle.desk_types.specs.Eligible.{is_candidate}
use Rattle.desk_types.specs.Fields.{is_key, is_headline, is_link}
use Rattle.desk_types.specs.Judged.{refusals}
use Rattle.desk_types.specs.Money.{budget, escrowed, spent, free}
use Rattle.auction_types.specs.Order.{better, wins_tie, has_smaller_triple}
use Rattle.auction_types.specs.Page.{entrants, distinct, is_best_of_account, place, at_place, page}
use Rattle.auction_types.specs.Price.{price, first_passing, is_enough, keeps_place, with_bid_of}
use Rattle.desk_types.specs.Reports.{campaign_day}
use Rattle.desk_types.specs.SettingsValue.{usual}
use Rattle.desk_types.specs.State.{State, empty}
use Rattle.desk_types.specs.Step.{accepted, step}
use Rattle.desk_types.specs.Tables.{no_rows, put, put_all, put_row}

-- the replies to calls with their moments, one after another
replies : State → List (ℕ × Call) → List Reply
replies S [] = []
replies S (call ∷ calls) = let a = step S call.0 call.1 in a.reply ∷ replies a.state calls

-- everything that is computed
everything : Unit {0}
unfolding caseless unicode_normalization encode chars words_of trimmed refusal meets is_same_pattern is_candidate is_key is_headline is_link refusals budget escrowed spent better wins_tie has_smaller_triple entrants distinct is_best_of_account place at_place page price first_passing is_enough keeps_place with_bid_of accepted changes reply raises_edition put put_all put_row step replies campaign_day
everything = tt

secret : List ℕ
secret = codes "secret01"

link : List ℕ
link = codes "http://s.example/"

with_budget : ℕ → List (ℕ × Call)
with_budget budget = (100, AddAccount secret) ∷ (100, AddCampaign 1 secret budget) ∷ (100, AddLine 1 secret 1 50 (codes "shoes") (codes "Shoes") link) ∷ []

spot : ℕ → Spot
spot number = record { place = 1; placement = number; account = 1; campaign = 1; line = 1; headline = codes "Shoes"; link = link; price = 5 }

phrase : List (ℕ × Call)
phrase = (100, AddNegative 1 secret 1 (codes "-\"running shoes\"")) ∷ []

-- the state after the calls
left : State → List (ℕ × Call) → State
left S [] = S
left S (call ∷ calls) = left (step S call.0 call.1).state calls

-- a click uses up the budget: what is left is below the bid, though above the price
budget_of_one_bid : replies (empty usual) (with_budget 50 ++ (100, Search (codes "red shoes") None) ∷ (100, Click 1) ∷ (100, Search (codes "shoes") None) ∷ (100, Search [] None) ∷ [])
    ≡ Made 1 ∷ Made 1 ∷ Made 1 ∷ Page (spot 1 ∷ []) ∷ Went link ∷ Page [] ∷ Page [] ∷ []
unfolding everything secret link with_budget spot
budget_of_one_bid = refl

-- an exact pattern is met by its words alone
exact_pattern : replies (empty usual) ((100, AddAccount secret) ∷ (100, AddCampaign 1 secret 50) ∷ (100, AddLine 1 secret 1 50 (codes "[red shoes]") (codes "Shoes") link)
    ∷ (100, Search (codes "red shoes") None) ∷ (100, Click 1) ∷ (100, Search (codes "red shoes") None) ∷ (100, Search (codes "shoes") None) ∷ [])
    ≡ Made 1 ∷ Made 1 ∷ Made 1 ∷ Page (spot 1 ∷ []) ∷ Went link ∷ Page [] ∷ Page [] ∷ []
unfolding everything secret link with_budget spot
exact_pattern = refl

three_shown : List (ℕ × Call)
three_shown = with_budget 1000 ++ (100, Search (codes "shoes") None) ∷ (100, Search (codes "shoes") None) ∷ (100, Search (codes "shoes") None)
    ∷ (1899, Click 1) ∷ (1899, Click 1) ∷ (1900, Click 2) ∷ (1900, Click 9) ∷ []

-- a click in the last second settles, a repeated one and a late one do not
last_second : replies (empty usual) three_shown ≡ Made 1 ∷ Made 1 ∷ Made 1 ∷ Page (spot 1 ∷ []) ∷ Page (spot 2 ∷ []) ∷ Page (spot 3 ∷ []) ∷ Went link ∷ Went link ∷ Went link ∷ Refused refused.NoPlacement ∷ []
unfolding everything secret link with_budget spot three_shown
last_second = refl

last_second_money : let S = left (empty usual) three_shown in (spent S 1 1 0 ≡ 5) × (escrowed S 1 1 0 ≡ 0) × (free S 1 1 0 ≡ pos 995) × (S.moment ≡ 1900) × (S.edition ≡ 3)
unfolding everything secret link with_budget three_shown left
last_second_money = (refl, refl, refl, refl, refl)

over_midnight : List (ℕ × Call)
over_midnight = with_budget 1000 ++ (86390, Search (codes "shoes") None) ∷ (86405, Click 1) ∷ []

-- a placement counts on the day on which it was shown
midnight : let S = left (empty usual) over_midnight in (spent S 1 1 0 ≡ 5) × (free S 1 1 0 ≡ pos 995) × (spent S 1 1 1 ≡ 0) × (free S 1 1 1 ≡ pos 1000)
unfolding everything secret link with_budget over_midnight left
midnight = (refl, refl, refl, refl)

-- a negative keeps its phrase out, and lives again under its number
negatives : replies (empty usual) (with_budget 1000 ++ phrase ++ (100, Search (codes "red running shoes") None) ∷ (100, Search (codes "running red shoes") None)
    ∷ (100, DropNegative 1 secret 1) ∷ (100, DropNegative 1 secret 1) ∷ phrase)
    ≡ Made 1 ∷ Made 1 ∷ Made 1 ∷ Made 1 ∷ Page [] ∷ Page (spot 1 ∷ []) ∷ Done ∷ Refused refused.NoNegative ∷ Made 1 ∷ []
unfolding everything secret link with_budget spot phrase
negatives = refl

-- the refusals come in their order
refusals_in_order : replies (empty usual) (with_budget 1000 ++ (100, AddCampaign 7 secret 0) ∷ (100, AddCampaign 1 (codes "wrongkey") 0) ∷ (100, AddCampaign 1 secret 0)
    ∷ (100, AddLine 1 secret 1 50 (codes "shoes") (codes "Shoes") link) ∷ [])
    ≡ Made 1 ∷ Made 1 ∷ Made 1 ∷ Refused refused.NoAccount ∷ Refused refused.BadKey ∷ Refused (refused.BadField field.Budget) ∷ Refused (refused.LineThere 1) ∷ []
unfolding everything secret link with_budget
refusals_in_order = refl

-- the rows of two accounts, made in turns, stand in the order of their keys
turns : List (ℕ × Call)
turns =
    (100, AddAccount secret) ∷ (100, AddAccount secret) ∷ (100, AddCampaign 2 secret 10) ∷ (100, AddCampaign 1 secret 20) ∷ (100, AddCampaign 2 secret 30)
    ∷ (86400, AddCampaign 1 secret 40) ∷ (86400, AddLine 2 secret 2 50 (codes "shoes") (codes "Shoes") link) ∷ (86400, AddLine 1 secret 1 50 (codes "shoes") (codes "Shoes") link) ∷ []

rows_by_key : let T = (left (empty usual) turns).tables in
    (map {B = ℕ × ℕ} (λ c. (c.account, c.number)) T.campaigns ≡ (1, 1) ∷ (1, 2) ∷ (2, 1) ∷ (2, 2) ∷ [])
    × (map (λ b. b.amount) T.budgets ≡ 20 ∷ 40 ∷ 10 ∷ 30 ∷ [])
    × (map {B = ℕ × ℕ} (λ l. (l.account, l.campaign)) T.lines ≡ (1, 1) ∷ (2, 2) ∷ [])
unfolding everything secret link turns left
rows_by_key = (refl, refl, refl)

-- what is suspended or off does not compete, and the bid and the quality that were set decide
changed_rows : replies (empty usual) (with_budget 1000 ++ (100, Suspend 1 true) ∷ (100, Search (codes "shoes") None) ∷ (100, Suspend 1 false)
    ∷ (100, Pause 1 secret (OfCampaign 1) false) ∷ (100, Search (codes "shoes") None) ∷ (100, Pause 1 secret (OfCampaign 1) true)
    ∷ (100, Pause 1 secret (OfLine 1) false) ∷ (100, Search (codes "shoes") None) ∷ (100, Pause 1 secret (OfLine 1) true)
    ∷ (100, SetBid 1 secret 1 4) ∷ (100, Search (codes "shoes") None) ∷ (100, SetBid 1 secret 1 50) ∷ (100, SetQuality 1 1 0) ∷ (100, Search (codes "shoes") None) ∷ [])
    ≡ Made 1 ∷ Made 1 ∷ Made 1 ∷ Done ∷ Page [] ∷ Done ∷ Done ∷ Page [] ∷ Done ∷ Done ∷ Page [] ∷ Done ∷ Done ∷ Page [] ∷ Done
    ∷ Refused (refused.BadField field.Quality) ∷ Page (spot 1 ∷ []) ∷ []
unfolding everything secret link with_budget spot
changed_rows = refl

asks : ℕ → List ℕ → ImportRow
asks bid pattern = record { campaign = 1; bid = bid; pattern = pattern; headline = codes "A"; link = codes "http://s.example/a" }

import : List ImportRow → ℕ × Call
import rows = (100, Import 1 secret 5 rows)

-- a bad row is named with its cause, and keeps the others out; a batch that comes again is answered as before
imported_once : replies (empty usual) (with_budget 1000 ++ import (asks 20 (codes "a") ∷ asks 0 (codes "b") ∷ asks 20 (codes "c") ∷ [])
    ∷ import (asks 20 (codes "a") ∷ asks 20 (codes "b") ∷ asks 20 (codes "A") ∷ []) ∷ import (asks 20 (codes "a") ∷ asks 20 (codes "b") ∷ asks 20 (codes "c") ∷ [])
    ∷ import (asks 0 [] ∷ []) ∷ [])
    ≡ Made 1 ∷ Made 1 ∷ Made 1 ∷ Refused (refused.BadRow 2 7) ∷ Refused (refused.BadRow 3 9) ∷ Imported 2 3 ∷ Imported 2 3 ∷ []
unfolding everything secret link with_budget asks import
imported_once = refl

-- the numbers of a campaign on a day
numbers : ℕ → ℕ → ℕ → ℕ → ℕ → ℕ → ℕ → CampaignDay
numbers budget shown clicks spent escrowed free credited =
    record { campaign = 1; budget = budget; shown = shown; clicks = clicks; spent = spent; escrowed = escrowed; free = free; credited = credited }

shown_as : ℕ → ShownFate → ShownRow
shown_as number fate = record { placement = number; campaign = 1; line = 1; place = 1; price = 5; shown = 100; fate = fate }

-- a click that is credited goes to the statement, and the day's budget stays spent; what was not clicked in time has expired
credited_once : replies (left (empty usual) three_shown) ((1900, Credit 2) ∷ (1900, Credit 9) ∷ (1900, Credit 1) ∷ (1900, Credit 1) ∷ (1900, Report 1 secret 0) ∷ (50, Shown 1 secret 0 1) ∷ (50, Shown 1 secret 0 3) ∷ [])
    ≡ Refused refused.NotSettled ∷ Refused refused.NoPlacement ∷ Credited 5 ∷ Credited 5 ∷ Day (record { day = 0; rows = numbers 1000 3 1 5 0 995 5 ∷ [] })
    ∷ ShownRows (shown_as 1 (told.Credited 1899 1900) ∷ shown_as 2 told.Expired ∷ shown_as 3 told.Expired ∷ []) ∷ ShownRows (shown_as 3 told.Expired ∷ []) ∷ []
unfolding everything secret link with_budget three_shown left numbers shown_as
credited_once = refl

-- a placement is in the report of the day on which it was shown
reports_by_day : replies (left (empty usual) over_midnight) ((86405, Report 1 secret 0) ∷ (86405, Report 1 secret 1) ∷ (86405, Report 1 secret 2932897) ∷ (86405, HostReport 0) ∷ [])
    ≡ Day (record { day = 0; rows = numbers 1000 1 1 5 0 995 0 ∷ [] }) ∷ Day (record { day = 1; rows = numbers 1000 0 0 0 0 1000 0 ∷ [] })
    ∷ Refused (refused.BadField field.Day) ∷ HostDay (record { day = 0; accounts = 1; shown = 1; clicks = 1; spent = 5; escrowed = 0; credited = 0 }) ∷ []
unfolding everything secret link with_budget over_midnight left numbers
reports_by_day = refl

-- a budget is not set below what is used of it today, and stands for today and the days after
budget_set : replies (left (empty usual) three_shown) ((1900, SetBudget 1 secret 1 4) ∷ (1900, SetBudget 1 secret 1 5) ∷ (86400, SetBudget 1 secret 2 9) ∷ (86400, SetBudget 1 secret 1 0) ∷ (86400, SetBudget 1 secret 1 9)
    ∷ (86401, SetBudget 1 secret 1 8) ∷ (86401, Report 1 secret 0) ∷ (86401, Report 1 secret 1) ∷ (86401, Report 1 secret 2) ∷ [])
    ≡ Refused (refused.BudgetBelowUsed 5) ∷ Done ∷ Refused refused.NoCampaign ∷ Refused (refused.BadField field.Budget) ∷ Done ∷ Done ∷ Day (record { day = 0; rows = numbers 5 3 1 5 0 0 0 ∷ [] })
    ∷ Day (record { day = 1; rows = numbers 8 0 0 0 0 8 0 ∷ [] }) ∷ Day (record { day = 2; rows = numbers 8 0 0 0 0 8 0 ∷ [] }) ∷ []
unfolding everything secret link with_budget three_shown left numbers
budget_set = refl

settled_at : ℕ → ℕ → Placement
settled_at number price = record { number = number; account = 1; campaign = 1; line = 1; place = 1; bid = price; price = price; shown = 0; deadline = 1800; fate = Settled 0 }

-- sums have no end
large_sums : let S = record (empty usual) { tables = record no_rows { placements = settled_at 1 (2 ^ 63) ∷ settled_at 2 (2 ^ 63) ∷ [] } } in (spent S 1 1 0 ≡ 2 ^ 64) × (free S 1 1 0 ≡ (pos 0 -ℤ pos (2 ^ 64)) -ℤ pos 0)
unfolding everything settled_at
large_sums = (refl, refl)
