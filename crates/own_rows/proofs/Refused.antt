-- An advertiser's call is refused by the rows of the account alone.
use Rattle.std.proofs.Common.{◌≡◌, ℕ, ◌+◌, not, ◌&&◌, List, [], ◌∷◌, ◌++◌, length, Option, None, Some, option_map, refl, ap, subst, ◌∙◌}
use Rattle.std.specs.Prelude.{IfSome, is_none, nat_le, nat_lt}
use Rattle.match_types.specs.Pattern.{refusal, negative_refusal}
use Rattle.auction_types.specs.declared.limits.TheConstants.{BID_MIN, BID_MAX}
use Rattle.desk_types.specs.declared.limits.TheConstants.{BUDGET_MIN, BUDGET_MAX, BATCH_MAX, ROWS_MAX, CAMPAIGNS_MAX, LINES_MAX, NEGATIVES_MAX}
use Rattle.desk_types.specs.declared.call.Call.{Call}
use Rattle.desk_types.specs.declared.call.Call.TheVariants.{AddCampaign, SetBudget, AddLine, SetBid, Pause, AddNegative, DropNegative, Import, Report, Shown}
use Rattle.desk_types.specs.declared.call.ImportRow.{ImportRow}
use Rattle.desk_types.specs.declared.call.Part.{Part}
use Rattle.desk_types.specs.declared.call.Part.TheVariants.{OfCampaign, OfLine}
use Rattle.desk_types.specs.declared.refusal.Field.TheVariants as field
use Rattle.desk_types.specs.declared.refusal.Refusal.{Refusal}
use Rattle.desk_types.specs.declared.refusal.Refusal.TheVariants.{BadKey, NoAccount, NoCampaign, NoLine, NoNegative, BadField, BadPattern, LineThere, NegativeThere, BudgetBelowUsed, CampaignsFull, LinesFull, NegativesFull, BadRow}
use Rattle.desk_types.specs.declared.rows.Batch.{Batch}
use Rattle.desk_types.specs.declared.tables.Tables.{Tables}
use Rattle.desk_types.specs.Asked.{AskedLine, asked_by, with_line, line_made}
use Rattle.desk_types.specs.Day.{day_of}
use Rattle.desk_types.specs.Fields.{is_headline, is_link}
use Rattle.desk_types.specs.Judged.{bad_rows, campaign_row, day_row, first, import_rows, is_within, line_row, line_rows, negative_rows, owner_rows, part_row, refusals, row_refusal, when}
use Rattle.desk_types.specs.Keys.{line_key}
use Rattle.desk_types.specs.Own.{rows_of}
use Rattle.desk_types.specs.Refusal.{number_of}
use Rattle.desk_types.specs.Sound.{StandInOrder}
use Rattle.desk_types.specs.State.{State}
use Rattle.desk_types.specs.Tables.{batch_of, put}
use Rattle.desk_types.proofs.InOrder.{Ordered-from}
use Rattle.desk_types.proofs.Puts.{Ordered, Ordered-put}
use Rattle.own_rows.specs.OwnReply.{advertiser_of}
use Rattle.own_rows.proofs.Asking.{with_line_own}
use Rattle.own_rows.proofs.Days.{alone, used_own}
use Rattle.own_rows.proofs.ReadAlone.{account_own, batch_own, campaign_own, campaigns_own, dropped_own, has_live_own, key_own, line_own, lines_own, live_own, negatives_own, same_line_own}

owner_refused : (T : Tables) (k : ℕ) (key : List ℕ) → owner_rows (rows_of T k) k key ≡ owner_rows T k key
owner_refused T k key = λ i. when (is_none (account_own T k i)) NoAccount ∷ when (not (key_own T k key i)) BadKey ∷ []

campaign_refused : (T : Tables) (k campaign : ℕ) → campaign_row (rows_of T k) k campaign ≡ campaign_row T k campaign
campaign_refused T k campaign = λ i. when (is_none (campaign_own T k campaign i)) NoCampaign

line_refused : (T : Tables) (k line : ℕ) → line_row (rows_of T k) k line ≡ line_row T k line
line_refused T k line = λ i. when (is_none (line_own T k line i)) NoLine

part_refused : (T : Tables) (k : ℕ) (part : Part) → part_row (rows_of T k) k part ≡ part_row T k part
part_refused T k (OfCampaign campaign) = campaign_refused T k campaign
part_refused T k (OfLine line) = line_refused T k line

asked_refused : (T : Tables) (k : ℕ) (asked : AskedLine) → line_rows (rows_of T k) k asked ≡ line_rows T k asked
asked_refused T k asked =
    λ i. campaign_refused T k asked.campaign i
    ∷ when (not (is_within BID_MIN BID_MAX asked.bid)) (BadField field.Bid)
    ∷ option_map BadPattern (refusal asked.pattern)
    ∷ when (not (is_headline asked.headline)) (BadField field.Headline)
    ∷ when (not (is_link asked.link)) (BadField field.Link)
    ∷ option_map (λ l. LineThere l.number) (same_line_own T k asked.campaign asked.pattern i)
    ∷ when (nat_le LINES_MAX (lines_own T k i)) LinesFull
    ∷ []

row_refused : (T : Tables) (k number : ℕ) (row : ImportRow) → row_refusal (rows_of T k) k number row ≡ row_refusal T k number row
row_refused T k number row = ap (λ (rows : List (Option Refusal)). option_map (λ cause. BadRow number (number_of cause)) (first rows)) (asked_refused T k (asked_by row))

ordered_more : (T : Tables) (k : ℕ) (asked : AskedLine) → Ordered line_key T.lines → Ordered line_key (with_line T k asked).lines
unfolding put
ordered_more T k asked h = Ordered-put line_key (line_made T k asked) T.lines h

rows_refused : (T : Tables) (k number : ℕ) (rows : List ImportRow) → Ordered line_key T.lines → bad_rows (rows_of T k) k number rows ≡ bad_rows T k number rows
rows_refused T k number [] h = refl
rows_refused T k number (row ∷ rows) h =
    let more = with_line T k (asked_by row) in
    ap (λ U. row_refusal (rows_of T k) k number row ∷ bad_rows U k (number + 1) rows) (with_line_own T k (asked_by row) h)
    ∙ (λ i. row_refused T k number row i ∷ rows_refused more k (number + 1) rows (ordered_more T k (asked_by row) h) i)

import_refused : (T : Tables) (k : ℕ) (found : Option Batch) (rows : List ImportRow) → Ordered line_key T.lines → import_rows (rows_of T k) k found rows ≡ import_rows T k found rows
import_refused T k (Some there) rows h = refl
import_refused T k None rows h = ap (λ bad. when (not (is_within 1 ROWS_MAX (length rows))) (BadField field.Rows) ∷ bad) (rows_refused T k 1 rows h)

negative_refused : (T : Tables) (k campaign : ℕ) (pattern : List ℕ) → negative_rows (rows_of T k) k campaign pattern ≡ negative_rows T k campaign pattern
negative_refused T k campaign pattern =
    λ i. option_map BadPattern (negative_refusal pattern)
    ∷ option_map (λ n. NegativeThere n.number) (live_own T k campaign pattern i)
    ∷ when (is_none (dropped_own T k campaign pattern i) && nat_le NEGATIVES_MAX (negatives_own T k i)) NegativesFull
    ∷ []

budget_refused : (S : State) (k : ℕ) (key : List ℕ) (campaign amount : ℕ) → refusals (alone S k) (SetBudget k key campaign amount) ≡ refusals S (SetBudget k key campaign amount)
unfolding refusals
budget_refused S k key campaign amount =
    let used = used_own S k campaign (day_of S.moment) in
    λ i. owner_refused S.tables k key i
    ++ campaign_refused S.tables k campaign i
    ∷ when (not (is_within BUDGET_MIN BUDGET_MAX amount)) (BadField field.Budget)
    ∷ when (nat_lt amount (used i)) (BudgetBelowUsed (used i))
    ∷ []

import_call_refused : (S : State) (k : ℕ) (key : List ℕ) (batch : ℕ) (rows : List ImportRow) → Ordered line_key S.tables.lines → refusals (alone S k) (Import k key batch rows) ≡ refusals S (Import k key batch rows)
unfolding refusals
import_call_refused S k key batch rows h =
    let T = S.tables in
    ap (λ found. owner_rows (rows_of T k) k key ++ when (not (is_within 1 BATCH_MAX batch)) (BadField field.Batch) ∷ import_rows (rows_of T k) k found rows) (batch_own T k batch)
    ∙ (λ i. owner_refused T k key i ++ when (not (is_within 1 BATCH_MAX batch)) (BadField field.Batch) ∷ import_refused T k (batch_of T k batch) rows h i)

-- a call that an advertiser makes is refused by the account's rows alone
at_owner : (S : State) (call : Call) → StandInOrder S.tables → IfSome (advertiser_of call) (λ k. refusals (alone S k) call ≡ refusals S call)
unfolding refusals
at_owner S (AddCampaign k key budget) h =
    λ i. owner_refused S.tables k key i
    ++ when (not (is_within BUDGET_MIN BUDGET_MAX budget)) (BadField field.Budget)
    ∷ when (nat_le CAMPAIGNS_MAX (campaigns_own S.tables k i)) CampaignsFull
    ∷ []
at_owner S (SetBudget k key campaign amount) h = budget_refused S k key campaign amount
at_owner S (AddLine k key campaign bid pattern headline link) h =
    λ i. owner_refused S.tables k key i ++ asked_refused S.tables k (record { campaign = campaign; bid = bid; pattern = pattern; headline = headline; link = link }) i
at_owner S (SetBid k key line bid) h =
    λ i. owner_refused S.tables k key i ++ line_refused S.tables k line i ∷ when (not (is_within BID_MIN BID_MAX bid)) (BadField field.Bid) ∷ []
at_owner S (Pause k key part on) h = λ i. owner_refused S.tables k key i ++ part_refused S.tables k part i ∷ []
at_owner S (AddNegative k key campaign pattern) h =
    λ i. owner_refused S.tables k key i ++ campaign_refused S.tables k campaign i ∷ negative_refused S.tables k campaign pattern i
at_owner S (DropNegative k key negative) h =
    λ i. owner_refused S.tables k key i ++ when (not (has_live_own S.tables k negative i)) NoNegative ∷ []
at_owner S (Import k key batch rows) h = import_call_refused S k key batch rows (Ordered-from line_key S.tables.lines h.lines)
at_owner S (Report k key day) h = λ i. owner_refused S.tables k key i ++ day_row day ∷ []
at_owner S (Shown k key day from) h = λ i. owner_refused S.tables k key i ++ day_row day ∷ []
at_owner S _ h = tt

pub refusals_own : (S : State) (k : ℕ) (call : Call) → StandInOrder S.tables → advertiser_of call ≡ Some k → refusals (alone S k) call ≡ refusals S call
refusals_own S k call h by = subst (λ o. IfSome o (λ n. refusals (alone S n) call ≡ refusals S call)) by (at_owner S call h)
