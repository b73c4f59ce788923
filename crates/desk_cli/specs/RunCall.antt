-- How a session is served.
use Rattle.std.specs.Prelude.{◌≡◌, ℕ, ◌⊎◌, List, [], Option}
use Rattle.desk_types.specs.Serving.{with_seen}
use Rattle.desk_core.specs.DeskValue.{DeskValue, service_of}
use Rattle.http_api.specs.declared.ending.Session.{Session}
use Rattle.http_api.specs.declared.ending.SessionEnd.{SessionEnd}
use Rattle.http_api.specs.declared.ending.SessionEnd.TheVariants.{Ended, Closed, CutShort, Malformed, SessionFull, ReadFault, WriteFault, NoMemory}
use Rattle.http_api.specs.SessionRun.{IsSession, session_at}
use Rattle.printouts.specs.declared.status.TheConstants.{ENDED, READ_FAULT, WRITE_FAULT, NO_MEMORY, BAD_LINE, PAST_LIMIT}
use Rattle.printouts.specs.CallState.{CallState}
use Rattle.desk_cli.specs.Work.{Handed, IsDeskLeft, IsUnserved, Left}

-- the status of the process by the end of its session
abbrev pub session_status : SessionEnd → ℕ
session_status Ended = ENDED
session_status Closed = ENDED
session_status CutShort = BAD_LINE
session_status Malformed = BAD_LINE
session_status SessionFull = PAST_LIMIT
session_status ReadFault = READ_FAULT
session_status WriteFault = WRITE_FAULT
session_status NoMemory = NO_MEMORY

-- the host's key, with the input, the output and the moments of the clock, before or after a call
pub record RunState : Type 0 where
  pub host_key : List ℕ
  pub at : CallState
  pub moments : Option (List ℕ)

abbrev pub run_at : List ℕ → CallState → Option (List ℕ) → RunState
run_at key at moments = record { host_key = key; at = at; moments = moments }

-- a session over the input and the output was served for the caller 1, from an empty journal to that of the desk
pub record IsSessionServed (before after : RunState) (desk : DeskValue) (status : ℕ) : Type 0 where
  pub session : Session
  pub ran : IsSession before.host_key
      (session_at (with_seen (service_of 1 desk) []) before.at.source before.at.sink before.moments)
      (session_at (service_of 1 desk) after.at.source after.at.sink after.moments) session
  pub status_is : status ≡ session_status session.end

-- a desk that is opened with these serves the session; or none is opened, and the clock is not asked
pub record IsRunServed (given : Handed) (before after : RunState) (left : Left) : Type 0 where
  pub desk : DeskValue
  pub desk_left : IsDeskLeft given left desk
  pub run : IsSessionServed before after desk left.status

pub record IsNotRun (given : Handed) (before after : RunState) (left : Left) : Type 0 where
  pub unserved : IsUnserved given.keeper before.at after.at left
  pub timeless : after.moments ≡ before.moments

abbrev pub RunEnds : Handed → RunState → RunState → Left → Type 0
RunEnds given before after left = IsRunServed given before after left ⊎ IsNotRun given before after left
