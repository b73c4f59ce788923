-- An edit that is not refused raises the edition where it changes the catalogue.
use Rattle.std.proofs.Common.{◌≡◌, ℕ, Bool, true, false, not, ◌==◌, ◌&&◌, ◌||◌, List, [], ◌∷◌, is_none, Option, None, Some, refl, sym, ap, ◌∙◌}
use Rattle.std.specs.List.{list_any}
use Rattle.std.proofs.lemmas.Bool.{both_ways}
use Rattle.desk_types.specs.declared.call.Call.{Call}
use Rattle.desk_types.specs.declared.call.Call.TheVariants.{AddAccount, SetQuality, Suspend, Credit, HostReport, AddCampaign, SetBudget, AddLine, SetBid, Pause, AddNegative, DropNegative, Import, Report, Shown, Search, Click}
use Rattle.desk_types.specs.declared.call.ImportRow.{ImportRow}
use Rattle.desk_types.specs.declared.call.Part.TheVariants.{OfCampaign, OfLine}
use Rattle.desk_types.specs.declared.refusal.Refusal.{Refusal}
use Rattle.desk_types.specs.declared.limits.TheConstants.{ROWS_MAX}
use Rattle.desk_types.specs.declared.refusal.Field.TheVariants as field
use Rattle.desk_types.specs.declared.refusal.Refusal.TheVariants.{BadField, NoAccount, NoCampaign, NoLine, NoNegative}
use Rattle.desk_types.specs.declared.rows.Batch.{Batch}
use Rattle.desk_types.specs.declared.tables.Change.{Change}
use Rattle.desk_types.specs.declared.rows.Negative.{Negative}
use Rattle.desk_types.specs.declared.tables.Tables.{Tables}
use Rattle.desk_types.specs.Changes.{changes, drop_of, import_of, put_found, raises_edition}
use Rattle.desk_types.specs.Judged.{has_live_negative, import_rows, is_within, judged, refusals, when}
use Rattle.desk_types.specs.State.{State}
use Rattle.desk_types.specs.Tables.{account_of, batch_of, campaign_of, line_of, negative_of}
use Rattle.desk_types.proofs.Accepting.{none_holds, not_when}
use Rattle.desk_types.proofs.EachRow.{Each}
use Rattle.accounts.specs.Planned.{is_edit, is_of_catalogue}
use Rattle.accounts.proofs.Joined.{any-group, find-group}
use Rattle.accounts.proofs.Negatives.{any_none}

not_false : (b : Bool) → not b ≡ false → b ≡ true
not_false true h = refl
not_false false h = absurd cc

-- a live negative is there
dropped : (T : Tables) (account negative : ℕ) (found : Option Negative) → negative_of T account negative ≡ found → has_live_negative T account negative ≡ true → true ≡ list_any is_of_catalogue (drop_of found)
dropped T account negative None is live =
    let none = any_none (λ (n : Negative). n.number == negative) (λ n. n.live) _ (sym (find-group (λ (n : Negative). n.account == account) (λ n. n.number == negative) T.negatives) ∙ is) in
    let lives = any-group (λ (n : Negative). n.account == account) (λ n. n.number == negative && n.live) T.negatives in
    absurd cc
dropped T account negative (Some n) is live = refl

-- a row that must be there is changed
row_changed : {A : Type 0} (changed : A → Change) (row : Option A) (refusal : Refusal) → ((x : A) → is_of_catalogue (changed x) ≡ true) → when (is_none row) refusal ≡ None → true ≡ list_any is_of_catalogue (put_found changed row)
row_changed changed None refusal of h = absurd cc
row_changed changed (Some row) refusal of h = sym (ap (λ b. b || false) (of row))

-- an import of a new batch has rows
imported : (T : Tables) (account batch : ℕ) (rows : List ImportRow) (there : Option Batch) → Each (λ o. o ≡ None) (import_rows T account there rows) → is_none there ≡ list_any is_of_catalogue (import_of T account batch rows there)
imported T account batch [] None h = absurd (both_ways _ (not_when (not (is_within 1 ROWS_MAX 0)) (BadField field.Rows) h.0) refl)
imported T account batch (row ∷ rows) None h = refl
imported T account batch rows (Some there) h = refl

pub raised_by_change : (S : State) (call : Call) → is_edit call ≡ true → judged S call ≡ None → raises_edition S call ≡ list_any is_of_catalogue (changes S call)
unfolding refusals changes raises_edition
raised_by_change S (AddAccount key) edit h = refl
raised_by_change S (AddCampaign account key budget) edit h = refl
raised_by_change S (SetBudget account key campaign amount) edit h = refl
raised_by_change S (AddLine account key campaign bid pattern headline link) edit h = refl
raised_by_change S (AddNegative account key campaign pattern) edit h = refl
raised_by_change S (DropNegative account key negative) edit h =
    let lives = none_holds (refusals S (DropNegative account key negative)) h in
    dropped S.tables account negative (negative_of S.tables account negative) refl
    (not_false (has_live_negative S.tables account negative) (not_when (not (has_live_negative S.tables account negative)) NoNegative lives.1.1.0))
raised_by_change S (SetQuality account line quality) edit h =
    row_changed _ (line_of S.tables account line) NoLine (λ l. refl) (none_holds (refusals S (SetQuality account line quality)) h).1.0
raised_by_change S (Suspend account suspended) edit h =
    row_changed _ (account_of S.tables account) NoAccount (λ a. refl) (none_holds (refusals S (Suspend account suspended)) h).0
raised_by_change S (SetBid account key line bid) edit h =
    row_changed _ (line_of S.tables account line) NoLine (λ l. refl) (none_holds (refusals S (SetBid account key line bid)) h).1.1.0
raised_by_change S (Pause account key (OfCampaign campaign) on) edit h =
    row_changed _ (campaign_of S.tables account campaign) NoCampaign (λ c. refl) (none_holds (refusals S (Pause account key (OfCampaign campaign) on)) h).1.1.0
raised_by_change S (Pause account key (OfLine line) on) edit h =
    row_changed _ (line_of S.tables account line) NoLine (λ l. refl) (none_holds (refusals S (Pause account key (OfLine line) on)) h).1.1.0
raised_by_change S (Import account key batch rows) edit h =
    imported S.tables account batch rows (batch_of S.tables account batch) (none_holds (refusals S (Import account key batch rows)) h).1.1.1
raised_by_change S (Credit placement) edit h = absurd cc
raised_by_change S (HostReport day) edit h = absurd cc
raised_by_change S (Report account key day) edit h = absurd cc
raised_by_change S (Shown account key day from) edit h = absurd cc
raised_by_change S (Search text places) edit h = absurd cc
raised_by_change S (Click placement) edit h = absurd cc
