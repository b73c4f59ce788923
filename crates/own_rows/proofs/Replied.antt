-- An advertiser's call is answered by the rows of the account alone.
use Rattle.std.proofs.Common.{◌≡◌, ℕ, ◌+◌, true, List, length, Option, None, Some, refl, sym, ap, subst, ◌∙◌}
use Rattle.std.specs.Prelude.{IfSome}
use Rattle.match_types.specs.Pattern.{negative_text}
use Rattle.desk_types.specs.declared.call.Call.{Call}
use Rattle.desk_types.specs.declared.call.Call.TheVariants.{AddCampaign, SetBudget, AddLine, SetBid, Pause, AddNegative, DropNegative, Import, Report, Shown}
use Rattle.desk_types.specs.declared.call.ImportRow.{ImportRow}
use Rattle.desk_types.specs.declared.refusal.Refusal.{Refusal}
use Rattle.desk_types.specs.declared.reply.Reply.TheVariants.{Made, Imported, Day, ShownRows}
use Rattle.desk_types.specs.declared.rows.Batch.{Batch}
use Rattle.desk_types.specs.declared.rows.Negative.{Negative}
use Rattle.desk_types.specs.declared.tables.Tables.{Tables}
use Rattle.desk_types.specs.Changes.{batch_made, live_again, negative_made, reply}
use Rattle.desk_types.specs.Judged.{first, judged}
use Rattle.desk_types.specs.Own.{rows_of}
use Rattle.desk_types.specs.Sound.{StandInOrder}
use Rattle.desk_types.specs.State.{State}
use Rattle.desk_types.specs.Step.{answered, at_moment, step}
use Rattle.desk_types.specs.Tables.{batch_of}
use Rattle.own_rows.specs.OwnReply.{advertiser_of, own, own_reply}
use Rattle.own_rows.proofs.Days.{alone, report_own, statement_own}
use Rattle.own_rows.proofs.ReadAlone.{batch_own, campaigns_own, dropped_own, lines_own, negatives_own}
use Rattle.own_rows.proofs.Refused.{refusals_own}

negative_replied : (T : Tables) (k campaign : ℕ) (pattern : List ℕ) → negative_made (rows_of T k) k campaign pattern ≡ negative_made T k campaign pattern
negative_replied T k campaign pattern =
    λ i. live_again (record { account = k; number = negatives_own T k i + 1; campaign = campaign; pattern = negative_text pattern; live = true }) (dropped_own T k campaign pattern i)

batch_new : (T : Tables) (k batch : ℕ) (rows : List ImportRow) (found : Option Batch) → batch_made (rows_of T k) k batch rows found ≡ batch_made T k batch rows found
batch_new T k batch rows (Some there) = refl
batch_new T k batch rows None = λ i. record { account = k; number = batch; first = lines_own T k i + 1; count = length rows }

batch_replied : (T : Tables) (k batch : ℕ) (rows : List ImportRow) → batch_made (rows_of T k) k batch rows (batch_of (rows_of T k) k batch) ≡ batch_made T k batch rows (batch_of T k batch)
batch_replied T k batch rows = ap (batch_made (rows_of T k) k batch rows) (batch_own T k batch) ∙ batch_new T k batch rows (batch_of T k batch)

-- what an accepted call of an advertiser is answered reads the account's rows alone
accepted_own : (S : State) (call : Call) → IfSome (advertiser_of call) (λ k. reply (alone S k) call ≡ reply S call)
unfolding reply
accepted_own S (AddCampaign k key budget) = λ i. Made (campaigns_own S.tables k i + 1)
accepted_own S (SetBudget k key campaign amount) = refl
accepted_own S (AddLine k key campaign bid pattern headline link) = λ i. Made (lines_own S.tables k i + 1)
accepted_own S (SetBid k key line bid) = refl
accepted_own S (Pause k key part on) = refl
accepted_own S (AddNegative k key campaign pattern) = ap (λ (n : Negative). Made n.number) (negative_replied S.tables k campaign pattern)
accepted_own S (DropNegative k key negative) = refl
accepted_own S (Import k key batch rows) = ap (λ (b : Batch). Imported b.first b.count) (batch_replied S.tables k batch rows)
accepted_own S (Report k key day) = ap Day (report_own S k day)
accepted_own S (Shown k key day from) = ap ShownRows (statement_own S k day from)
accepted_own S _ = tt

reply_own : (S : State) (k : ℕ) (call : Call) → advertiser_of call ≡ Some k → reply (alone S k) call ≡ reply S call
reply_own S k call by = subst (λ o. IfSome o (λ n. reply (alone S n) call ≡ reply S call)) by (accepted_own S call)

by_judgement : (S : State) (k : ℕ) (call : Call) (judgement : Option Refusal) → advertiser_of call ≡ Some k → (answered (alone S k) call judgement).reply ≡ (answered S call judgement).reply
by_judgement S k call (Some refusal) by = refl
by_judgement S k call None by = reply_own S k call by

now_replied : (S : State) (k : ℕ) (call : Call) → StandInOrder S.tables → advertiser_of call ≡ Some k
    → (answered (alone S k) call (judged (alone S k) call)).reply ≡ (answered S call (judged S call)).reply
now_replied S k call h by =
    ap (λ rows. (answered (alone S k) call (first rows)).reply) (refusals_own S k call h by) ∙ by_judgement S k call (judged S call) by

pub replied_own : (S : State) (k moment : ℕ) (call : Call) → StandInOrder S.tables → advertiser_of call ≡ Some k → (step S moment call).reply ≡ own_reply (own S k) moment call
unfolding step own_reply
replied_own S k moment call h by = sym (now_replied (at_moment S moment) k call h by)
