-- What is judged on the rows of a book is judged in every state that has them beside its placements.
use Rattle.std.proofs.Common.{◌≡◌, ℕ, true, List, [], ◌∷◌, ◌++◌, not, None, Result, Ok, Err, IfErr, IfOk, OnOk, refl, sym, ap, ◌∙◌}
use Rattle.std.specs.Prelude.{nat_lt}
use Rattle.desk_types.specs.declared.call.Call.{Call}
use Rattle.desk_types.specs.declared.call.Call.TheVariants.{SetBudget}
use Rattle.desk_types.specs.declared.limits.TheConstants.{BUDGET_MIN, BUDGET_MAX}
use Rattle.desk_types.specs.declared.refusal.Field.TheVariants as field
use Rattle.desk_types.specs.declared.refusal.Refusal.TheVariants.{BadField, BudgetBelowUsed}
use Rattle.desk_types.specs.declared.reply.Reply.TheVariants.{Done}
use Rattle.desk_types.specs.declared.rows.BudgetSet.{BudgetSet}
use Rattle.desk_types.specs.declared.tables.Change.TheVariants.{PutBudget}
use Rattle.desk_types.specs.declared.tables.Tables.{Tables}
use Rattle.desk_types.specs.Changes.{changes, reply}
use Rattle.desk_types.specs.Judged.{campaign_row, first, is_within, owner_rows, refusals, when}
use Rattle.desk_types.specs.State.{State}
use Rattle.accounts.specs.declared.plan.EditFault.{EditFault}
use Rattle.accounts.specs.declared.plan.EditFault.TheVariants.{Refused, NoMemory}
use Rattle.accounts.specs.declared.plan.Plan.{Plan}
use Rattle.accounts.specs.Planned.{IsFirst, IsPlanned, IsStateOf, IsStop, beside, budget_rows, is_edit, reads_no_placement, state_on}
use Rattle.accounts.proofs.ReadingRows.{same_changes, same_refusals, same_reply}

-- an edit that sets no budget reads no placement
pub edit_else : (call : Call) → is_edit call ≡ true → ((account : ℕ) (key : List ℕ) (campaign amount : ℕ) → call ≡ SetBudget account key campaign amount → ⊥) → reads_no_placement call ≡ true
edit_else (SetBudget account key campaign amount) edit other = absurd (other account key campaign amount refl)
edit_else _ edit other = edit

still_edit : (call : Call) → reads_no_placement call ≡ true → is_edit call ≡ true
still_edit (SetBudget account key campaign amount) h = refl
still_edit _ h = h

back : (T : Tables) (moment used : ℕ) (call : Call) (S : State) → IsStateOf T moment used call S → beside T.placements S ≡ state_on T moment
back T moment used call S is = (λ i. state_on (record (is.rows i) { placements = T.placements }) (is.at i))

same_judgement : (T : Tables) (moment used : ℕ) (call : Call) (S : State) → reads_no_placement call ≡ true → IsStateOf T moment used call S → refusals S call ≡ refusals (state_on T moment) call
same_judgement T moment used call S edit is = same_refusals T.placements S call edit ∙ ap (λ U. refusals U call) (back T moment used call S is)

planned_in : (T : Tables) (moment used : ℕ) (call : Call) (plan : Plan) → reads_no_placement call ≡ true → IsPlanned (state_on T moment) call plan → (S : State) → IsStateOf T moment used call S → IsPlanned S call plan
planned_in T moment used call plan edit h S is = record {
  not_refused = ap first (same_judgement T moment used call S edit is) ∙ h.not_refused;
  changed = h.changed ∙ sym (same_changes T.placements S call (still_edit call edit) ∙ ap (λ U. changes U call) (back T moment used call S is));
  replied = h.replied ∙ sym (same_reply T.placements S call (still_edit call edit) ∙ ap (λ U. reply U call) (back T moment used call S is));
}

pub all_planned : (T : Tables) (moment used : ℕ) (call : Call) (planned : Result Plan EditFault) → reads_no_placement call ≡ true → IfOk planned (IsPlanned (state_on T moment) call)
    → IfOk planned (λ plan. (S : State) → IsStateOf T moment used call S → IsPlanned S call plan)
all_planned T moment used call (Ok plan) edit h = planned_in T moment used call plan edit h
all_planned T moment used call (Err fault) edit h = tt

stops_in : (T : Tables) (moment used : ℕ) (call : Call) (fault : EditFault) → reads_no_placement call ≡ true → IsStop (state_on T moment) call fault → (S : State) → IsStateOf T moment used call S → IsStop S call fault
stops_in T moment used call (Refused refusal) edit h S is = ap first (same_judgement T moment used call S edit is) ∙ h
stops_in T moment used call NoMemory edit h S is = tt

pub all_stop : (T : Tables) (moment used : ℕ) (call : Call) (planned : Result Plan EditFault) → reads_no_placement call ≡ true → IfErr planned (IsStop (state_on T moment) call)
    → IfErr planned (λ fault. (S : State) → IsStateOf T moment used call S → IsStop S call fault)
all_stop T moment used call (Ok plan) edit h = tt
all_stop T moment used call (Err fault) edit h = stops_in T moment used call fault edit h

-- the same of a budget that is set, where so much is used
budget_judged : (T : Tables) (used : ℕ) (key : List ℕ) (b : BudgetSet) (S : State) → IsStateOf T b.at used (SetBudget b.account key b.campaign b.amount) S
    → refusals S (SetBudget b.account key b.campaign b.amount) ≡ budget_rows T used b.account key b.campaign b.amount
unfolding refusals
budget_judged T used key b S is =
    (λ i. owner_rows (is.rows i) b.account key ++ campaign_row (is.rows i) b.account b.campaign ∷ when (not (is_within BUDGET_MIN BUDGET_MAX b.amount)) (BadField field.Budget)
    ∷ when (nat_lt b.amount (is.has_used i)) (BudgetBelowUsed (is.has_used i)) ∷ [])

pub budget_planned : (T : Tables) (used : ℕ) (key : List ℕ) (b : BudgetSet) (planned : Result Plan EditFault) → IfOk planned (λ plan. plan.changes ≡ PutBudget b ∷ []) → IfOk planned (λ plan. plan.reply ≡ Done)
    → OnOk planned (first (budget_rows T used b.account key b.campaign b.amount) ≡ None)
    → IfOk planned (λ plan. (S : State) → IsStateOf T b.at used (SetBudget b.account key b.campaign b.amount) S → IsPlanned S (SetBudget b.account key b.campaign b.amount) plan)
unfolding changes reply
budget_planned T used key b (Ok plan) changed replied passed = λ S is. record {
  not_refused = ap first (budget_judged T used key b S is) ∙ passed;
  changed = changed ∙ ap (λ at. PutBudget (record b { at = at }) ∷ []) (sym is.at);
  replied = replied;
}
budget_planned T used key b (Err fault) changed replied passed = tt

pub budget_stops : (T : Tables) (used : ℕ) (key : List ℕ) (b : BudgetSet) (planned : Result Plan EditFault) → IfErr planned (IsFirst (budget_rows T used b.account key b.campaign b.amount))
    → IfErr planned (λ fault. (S : State) → IsStateOf T b.at used (SetBudget b.account key b.campaign b.amount) S → IsStop S (SetBudget b.account key b.campaign b.amount) fault)
budget_stops T used key b (Ok plan) h = tt
budget_stops T used key b (Err (Refused refusal)) h = λ S is. ap first (budget_judged T used key b S is) ∙ h
budget_stops T used key b (Err NoMemory) h = λ S is. tt
