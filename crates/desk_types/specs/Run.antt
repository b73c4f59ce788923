-- The state after a list of entries, and the answer to a call that follows them.
use Rattle.std.specs.Prelude.{ℕ, List, [], ◌∷◌}
use Rattle.desk_types.specs.declared.call.Call.{Call}
use Rattle.desk_types.specs.declared.entry.Entry.{Entry}
use Rattle.desk_types.specs.declared.entry.Outcome.{Outcome}
use Rattle.desk_types.specs.declared.entry.Outcome.TheVariants.{Answered, Faulted}
use Rattle.desk_types.specs.declared.reply.Reply.{Reply}
use Rattle.desk_types.specs.State.{State}
use Rattle.desk_types.specs.Step.{step}

-- an answered call is a step, and one that met a fault changes nothing, the moment included
abbrev pub after : State → ℕ → Call → Outcome → State
after S moment call Answered = (step S moment call).state
after S moment call (Faulted before count) = S

-- the state after the entries, in order
unfoldable pub run : State → List Entry → State
run S [] = S
run S (e ∷ entries) = run (after S e.moment e.call e.outcome) entries

-- the answer to a call, with its moment, that follows these entries
abbrev pub answer : State → List Entry → ℕ → Call → Reply
answer S entries moment call = (step (run S entries) moment call).reply
