-- A drill on its way.
use Rattle.std.specs.Prelude.{◌≡◌, ℕ, ◌+◌, max, List, ◌++◌, length, All, Result, Ok, Err}
use Rattle.desk_types.specs.declared.call.Call.{Call}
use Rattle.desk_types.specs.declared.entry.Fault.{Fault}
use Rattle.desk_types.specs.declared.reply.Reply.{Reply}
use Rattle.desk_types.specs.Serving.{ServiceView, AreServed}
use Rattle.drill_calls.specs.DrillCalls.{accounts_part, searches_part, at_moments, greatest_placement}
use Rattle.drill_calls.specs.DrillRun.{HasMemory, IsDrilledInPart}

-- where a drill stands: the service, how many calls were made, and the greatest placement that was answered
pub record Stand : Type 0 where
  pub service : ServiceView
  pub made : ℕ
  pub greatest : ℕ

abbrev pub standing : ServiceView → ℕ → ℕ → Stand
standing service made greatest = record { service = service; made = made; greatest = greatest }

-- these calls are made one after another, and none wants memory
pub record AreCalled (before after : Stand) (calls : List Call) : Type 0 where
  pub results : List (Result Reply Fault)
  pub served : AreServed before.service (at_moments before.made calls) results after.service
  pub made : after.made ≡ before.made + length calls
  pub greatest : after.greatest ≡ max before.greatest (greatest_placement results)
  pub answered : All HasMemory results

-- the first of these calls are made
pub record AreCalledInPart (before after : Stand) (calls : List Call) : Type 0 where
  pub made : List Call
  pub rest : List Call
  pub results : List (Result Reply Fault)
  pub first : calls ≡ made ++ rest
  pub served : AreServed before.service (at_moments before.made made) results after.service

abbrev pub CallsThrough : {E : Type 0} → Stand → Stand → List Call → Result (Unit {0}) E → Type 0
CallsThrough before after calls (Ok done) = AreCalled before after calls
CallsThrough before after calls (Err fault) = AreCalledInPart before after calls

-- a drill: its start, its size, and the service that it began on
pub record Course : Type 0 where
  pub start : ℕ
  pub size : ℕ
  pub service : ServiceView

-- the accounts and so many searches of a drill are made
pub record IsDrilledSoFar (course : Course) (searches : ℕ) (now : Stand) : Type 0 where
  pub results : List (Result Reply Fault)
  pub served : AreServed course.service
      (at_moments 0 (accounts_part course.start course.size ++ searches_part course.start course.size searches results))
      results now.service
  pub made : now.made ≡ length results
  pub greatest : now.greatest ≡ greatest_placement results
  pub answered : All HasMemory results

abbrev pub DrillsOn : {E : Type 0} → Course → ℕ → Stand → Result (Unit {0}) E → Type 0
DrillsOn course searches now (Ok done) = IsDrilledSoFar course searches now
DrillsOn course searches now (Err fault) = IsDrilledInPart course.start course.size course.service now.service
