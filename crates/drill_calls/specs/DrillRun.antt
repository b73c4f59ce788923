-- How a drill is run on a service.
use Rattle.std.specs.Prelude.{◌≡◌, ◌≢◌, ℕ, List, ◌++◌, All, Result, Err}
use Rattle.desk_types.specs.declared.call.Call.{Call}
use Rattle.desk_types.specs.declared.entry.Fault.{Fault}
use Rattle.desk_types.specs.declared.entry.Fault.TheVariants.{NoMemory}
use Rattle.desk_types.specs.declared.reply.Reply.{Reply}
use Rattle.desk_types.specs.Serving.{ServiceView, AreServed}
use Rattle.drill_calls.specs.DrillCalls.{drill_calls}

-- the call did not want memory
abbrev pub HasMemory : Result Reply Fault → Type 0
HasMemory result = result ≢ Err NoMemory

-- the calls of the drill, made by their own results, are served, and none wants memory
pub record IsDrilled (start size : ℕ) (service service_now : ServiceView) : Type 0 where
  pub results : List (Result Reply Fault)
  pub served : AreServed service (drill_calls start size results) results service_now
  pub answered : All HasMemory results

-- the first calls of the drill, made by their own results, are served, and no more
pub record IsDrilledInPart (start size : ℕ) (service service_now : ServiceView) : Type 0 where
  pub calls : List (ℕ × Call)
  pub rest : List (ℕ × Call)
  pub results : List (Result Reply Fault)
  pub first : drill_calls start size results ≡ calls ++ rest
  pub served : AreServed service calls results service_now
