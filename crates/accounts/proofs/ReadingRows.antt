-- An edit reads no placement.
use Rattle.std.proofs.Common.{◌≡◌, ℕ, ◌+◌, Bool, true, not, List, [], ◌∷◌, ◌++◌, length, map, Option, None, Some, refl, ap}
use Rattle.desk_types.specs.declared.call.Call.{Call}
use Rattle.desk_types.specs.declared.call.Call.TheVariants.{AddAccount, SetQuality, Suspend, Credit, HostReport, AddCampaign, SetBudget, AddLine, SetBid, Pause, AddNegative, DropNegative, Import, Report, Shown, Search, Click}
use Rattle.desk_types.specs.declared.call.ImportRow.{ImportRow}
use Rattle.desk_types.specs.declared.call.Part.{Part}
use Rattle.desk_types.specs.declared.call.Part.TheVariants.{OfCampaign, OfLine}
use Rattle.desk_types.specs.declared.rows.Batch.{Batch}
use Rattle.desk_types.specs.declared.rows.Placement.{Placement}
use Rattle.desk_types.specs.declared.tables.Tables.{Tables}
use Rattle.desk_types.specs.declared.limits.TheConstants.{BATCH_MAX, ROWS_MAX}
use Rattle.desk_types.specs.declared.refusal.Refusal.TheVariants.{BadField}
use Rattle.desk_types.specs.declared.refusal.Field.TheVariants as field
use Rattle.desk_types.specs.declared.tables.Change.TheVariants.{PutLine, PutBatch}
use Rattle.desk_types.specs.Asked.{asked_by, line_made, lines_made, with_line}
use Rattle.desk_types.specs.Changes.{batch_made, changes, import_of, reply, switch_of}
use Rattle.desk_types.specs.Judged.{bad_rows, import_rows, is_within, owner_rows, part_row, refusals, row_refusal, when}
use Rattle.desk_types.specs.State.{State}
use Rattle.desk_types.specs.Tables.{batch_of, put}
use Rattle.accounts.specs.Planned.{beside, is_edit, reads_no_placement}

-- the tables with other placements
bare : List Placement → Tables → Tables
bare ps T = record T { placements = ps }

part_refused : (ps : List Placement) (S : State) (account : ℕ) (key : List ℕ) (part : Part)
    → owner_rows S.tables account key ++ part_row S.tables account part ∷ [] ≡ owner_rows S.tables account key ++ part_row (bare ps S.tables) account part ∷ []
unfolding bare
part_refused ps S account key (OfCampaign campaign) = refl
part_refused ps S account key (OfLine line) = refl

part_switched : (ps : List Placement) (T : Tables) (account : ℕ) (part : Part) (on : Bool) → switch_of T account part on ≡ switch_of (bare ps T) account part on
unfolding bare
part_switched ps T account (OfCampaign campaign) on = refl
part_switched ps T account (OfLine line) on = refl

same_rows : (ps : List Placement) (T : Tables) (account number : ℕ) (rows : List ImportRow) → bad_rows T account number rows ≡ bad_rows (bare ps T) account number rows
unfolding bare put
same_rows ps T account number [] = refl
same_rows ps T account number (row ∷ rows) = ap (λ bad. row_refusal T account number row ∷ bad) (same_rows ps (with_line T account (asked_by row)) account (number + 1) rows)

same_import : (ps : List Placement) (T : Tables) (account : ℕ) (found : Option Batch) (rows : List ImportRow) → import_rows T account found rows ≡ import_rows (bare ps T) account found rows
same_import ps T account (Some there) rows = refl
same_import ps T account None rows = ap (λ bad. when (not (is_within 1 ROWS_MAX (length rows))) (BadField field.Rows) ∷ bad) (same_rows ps T account 1 rows)

same_lines : (ps : List Placement) (T : Tables) (account : ℕ) (rows : List ImportRow) → lines_made T account rows ≡ lines_made (bare ps T) account rows
unfolding bare put
same_lines ps T account [] = refl
same_lines ps T account (row ∷ rows) = ap (λ ls. line_made T account (asked_by row) ∷ ls) (same_lines ps (with_line T account (asked_by row)) account rows)

same_import_of : (ps : List Placement) (T : Tables) (account number : ℕ) (rows : List ImportRow) (found : Option Batch) → import_of T account number rows found ≡ import_of (bare ps T) account number rows found
unfolding bare
same_import_of ps T account number rows (Some there) = refl
same_import_of ps T account number rows None = ap (λ ls. map PutLine ls ++ PutBatch (batch_made T account number rows None) ∷ []) (same_lines ps T account rows)

pub same_refusals : (ps : List Placement) (S : State) (call : Call) → reads_no_placement call ≡ true → refusals S call ≡ refusals (beside ps S) call
unfolding refusals bare
same_refusals ps S (AddAccount key) h = refl
same_refusals ps S (SetQuality account line quality) h = refl
same_refusals ps S (Suspend account suspended) h = refl
same_refusals ps S (AddCampaign account key budget) h = refl
same_refusals ps S (SetBudget account key campaign amount) h = absurd cc
same_refusals ps S (AddLine account key campaign bid pattern headline link) h = refl
same_refusals ps S (SetBid account key line bid) h = refl
same_refusals ps S (Pause account key part on) h = part_refused ps S account key part
same_refusals ps S (AddNegative account key campaign pattern) h = refl
same_refusals ps S (DropNegative account key negative) h = refl
same_refusals ps S (Import account key batch rows) h = ap (λ rows_bad. owner_rows S.tables account key ++ when (not (is_within 1 BATCH_MAX batch)) (BadField field.Batch) ∷ rows_bad) (same_import ps S.tables account (batch_of S.tables account batch) rows)
same_refusals ps S (Credit placement) h = absurd cc
same_refusals ps S (HostReport day) h = absurd cc
same_refusals ps S (Report account key day) h = absurd cc
same_refusals ps S (Shown account key day from) h = absurd cc
same_refusals ps S (Search text places) h = absurd cc
same_refusals ps S (Click placement) h = absurd cc

pub same_changes : (ps : List Placement) (S : State) (call : Call) → is_edit call ≡ true → changes S call ≡ changes (beside ps S) call
unfolding changes bare
same_changes ps S (AddAccount key) h = refl
same_changes ps S (SetQuality account line quality) h = refl
same_changes ps S (Suspend account suspended) h = refl
same_changes ps S (AddCampaign account key budget) h = refl
same_changes ps S (SetBudget account key campaign amount) h = refl
same_changes ps S (AddLine account key campaign bid pattern headline link) h = refl
same_changes ps S (SetBid account key line bid) h = refl
same_changes ps S (Pause account key part on) h = part_switched ps S.tables account part on
same_changes ps S (AddNegative account key campaign pattern) h = refl
same_changes ps S (DropNegative account key negative) h = refl
same_changes ps S (Import account key batch rows) h = same_import_of ps S.tables account batch rows (batch_of S.tables account batch)
same_changes ps S (Credit placement) h = absurd cc
same_changes ps S (HostReport day) h = absurd cc
same_changes ps S (Report account key day) h = absurd cc
same_changes ps S (Shown account key day from) h = absurd cc
same_changes ps S (Search text places) h = absurd cc
same_changes ps S (Click placement) h = absurd cc

pub same_reply : (ps : List Placement) (S : State) (call : Call) → is_edit call ≡ true → reply S call ≡ reply (beside ps S) call
unfolding reply
same_reply ps S (AddAccount key) h = refl
same_reply ps S (SetQuality account line quality) h = refl
same_reply ps S (Suspend account suspended) h = refl
same_reply ps S (AddCampaign account key budget) h = refl
same_reply ps S (SetBudget account key campaign amount) h = refl
same_reply ps S (AddLine account key campaign bid pattern headline link) h = refl
same_reply ps S (SetBid account key line bid) h = refl
same_reply ps S (Pause account key part on) h = refl
same_reply ps S (AddNegative account key campaign pattern) h = refl
same_reply ps S (DropNegative account key negative) h = refl
same_reply ps S (Import account key batch rows) h = refl
same_reply ps S (Credit placement) h = absurd cc
same_reply ps S (HostReport day) h = absurd cc
same_reply ps S (Report account key day) h = absurd cc
same_reply ps S (Shown account key day from) h = absurd cc
same_reply ps S (Search text places) h = absurd cc
same_reply ps S (Click placement) h = absurd cc
