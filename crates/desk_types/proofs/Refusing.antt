-- A refused call changes the moment alone; the first refusal of joined tables.
use Rattle.std.proofs.Common.{◌≡◌, ℕ, List, [], ◌∷◌, ◌++◌, Option, None, Some, refl, arith}
use Rattle.std.specs.Option.{option_or}
use Rattle.desk_types.specs.declared.call.Call.{Call}
use Rattle.desk_types.specs.declared.refusal.Refusal.{Refusal}
use Rattle.desk_types.specs.declared.reply.Reply.TheVariants.{Refused}
use Rattle.desk_types.specs.Changes.{reply}
use Rattle.desk_types.specs.Judged.{first, judged}
use Rattle.desk_types.specs.State.{State}
use Rattle.desk_types.specs.Step.{answered, at_moment, step}

-- an accepted call is not answered by a refusal
reply_is_no_refusal : (S : State) (call : Call) (refusal : Refusal) → reply S call ≡ Refused refusal → ⊥
unfolding reply
reply_is_no_refusal S call refusal h = grind arith

by_judgement : (S : State) (call : Call) (judgement : Option Refusal) (refusal : Refusal) → (answered S call judgement).reply ≡ Refused refusal → (answered S call judgement).state ≡ S
by_judgement S call (Some r) refusal h = refl
by_judgement S call None refusal h = absurd (reply_is_no_refusal S call refusal h)

pub refused-alone : (S : State) (moment : ℕ) (call : Call) (refusal : Refusal) → (step S moment call).reply ≡ Refused refusal → (step S moment call).state ≡ at_moment S moment
unfolding step
refused-alone S moment call refusal h = by_judgement (at_moment S moment) call (judged (at_moment S moment) call) refusal h

pub first-append : (rows more : List (Option Refusal)) → first (rows ++ more) ≡ option_or (first rows) (first more)
first-append [] more = refl
first-append (None ∷ rows) more = first-append rows more
first-append (Some r ∷ rows) more = refl
