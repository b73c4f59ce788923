-- The edition of each state that is reached, and the state after an accepted call.
use Rattle.std.proofs.Common.{◌≡◌, ℕ, ◌+◌, ◌≤◌, Bool, true, false, Option, None, Some, Result, Ok, Err, IfOk, OnOk, List, [], ◌∷◌, length, sym, ap, subst, ◌∙◌, arith}
use Rattle.desk_types.specs.declared.call.Call.{Call}
use Rattle.desk_types.specs.declared.entry.Entry.{Entry}
use Rattle.desk_types.specs.declared.entry.Outcome.{Outcome}
use Rattle.desk_types.specs.declared.entry.Outcome.TheVariants.{Answered, Faulted}
use Rattle.desk_types.specs.declared.refusal.Refusal.{Refusal}
use Rattle.desk_types.specs.Changes.{raises_edition}
use Rattle.desk_types.specs.Judged.{judged}
use Rattle.desk_types.specs.Run.{after, run}
use Rattle.desk_types.specs.State.{State}
use Rattle.desk_types.specs.Step.{accepted, answered, at_moment, next_edition, step}
use Rattle.desk_types.specs.Tables.{put_all}
use Rattle.desk_keeper.specs.declared.keeper.KeeperFault.{KeeperFault}
use Rattle.desk_core.specs.declared.plan.Plan.{Plan}
use Rattle.desk_core.specs.declared.told.Told.{Told}
use Rattle.desk_core.specs.Asking.{changes_of, changes_where}
use Rattle.desk_core.specs.Planned.{IsPlanned, listed, with_changes}
use Rattle.desk_core.specs.Told.{IsThere, replied}

next_low : (rises : Bool) (edition : ℕ) → next_edition rises edition ≤ edition + 1
next_low true edition = omega arith
next_low false edition = omega arith

-- a call raises the edition by at most one
edition_answered : (S : State) (call : Call) (judgement : Option Refusal) → (answered S call judgement).state.edition ≤ S.edition + 1
unfolding accepted
edition_answered S call (Some refusal) = omega arith
edition_answered S call None = next_low (raises_edition S call) S.edition

edition_after : (S : State) (moment : ℕ) (call : Call) (outcome : Outcome) → (after S moment call outcome).edition ≤ S.edition + 1
unfolding step
edition_after S moment call Answered = edition_answered (at_moment S moment) call (judged (at_moment S moment) call)
edition_after S moment call (Faulted before count) = omega arith

pub edition_reached : (S : State) (entries : List Entry) → (run S entries).edition ≤ S.edition + length entries
unfolding run
edition_reached S [] = omega arith
edition_reached S (e ∷ entries) = omega (arith, edition_after S e.moment e.call e.outcome, edition_reached (after S e.moment e.call e.outcome) entries)

-- the state where the changes of a plan are put is the one after the accepted call, and the reply is told there
accepted_is : (S left : State) (call : Call) (plan : Plan) → IsPlanned S call plan → left ≡ with_changes S plan.changes → left ≡ accepted S call
unfolding accepted
accepted_is S left call plan h is = is ∙ (λ i. record S { edition = next_edition (h.raised i) S.edition; tables = put_all S.tables (h.changed i) })

pub answered_is : (S left : State) (call : Call) (plan : Plan) (result : Result Told KeeperFault) → IsPlanned S call plan → OnOk result (left ≡ with_changes S plan.changes) → OnOk result (left ≡ (answered S call (judged S call)).state)
answered_is S left call plan (Ok told) h is = accepted_is S left call plan h is ∙ ap (λ judgement. (answered S call judgement).state) (sym h.not_refused)
answered_is S left call plan (Err fault) h is = tt

pub told_of : (S left : State) (call : Call) (plan : Plan) (result : Result Told KeeperFault) → IsPlanned S call plan → OnOk result (left ≡ with_changes S plan.changes) → IfOk result (λ told. told ≡ plan.told)
    → IfOk result (λ told. replied left.tables told ≡ (answered S call (judged S call)).reply)
told_of S left call plan (Ok told) h is which =
    ap (replied left.tables) which ∙ ap (λ (T : State). replied T.tables plan.told) is ∙ h.told ∙ ap (λ judgement. (answered S call judgement).reply) (sym h.not_refused)
told_of S left call plan (Err fault) h is which = tt

pub there_of : (S left : State) (call : Call) (plan : Plan) (result : Result Told KeeperFault) → IsPlanned S call plan → OnOk result (left ≡ with_changes S plan.changes) → IfOk result (λ told. told ≡ plan.told) → IfOk result (IsThere left.tables)
there_of S left call plan (Ok told) h is which = subst (λ t. IsThere left.tables t) (sym which) (subst (λ (T : State). IsThere T.tables plan.told) (sym is) h.there)
there_of S left call plan (Err fault) h is which = tt

-- the changes of a plan are those of the call
pub changes_planned : (S : State) (call : Call) (plan : Plan) → IsPlanned S call plan → listed plan.changes ≡ changes_of S call
changes_planned S call plan h = h.changed ∙ ap (changes_where S call) (sym h.not_refused)

-- a call that is refused has none
pub changes_refused : (S : State) (call : Call) (refusal : Refusal) → judged S call ≡ Some refusal → [] ≡ changes_of S call
changes_refused S call refusal h = ap (changes_where S call) (sym h)
