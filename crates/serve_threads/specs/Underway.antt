-- Work on its way: what was done so far, and one session.
use Rattle.std.specs.Prelude.{◌≡◌, ℕ, ◌+◌, ◌*◌, ◌≤◌, List, ◌++◌, length}
use Rattle.desk_doors.specs.Accepting.{IsGivenBack}
use Rattle.desk_types.specs.Serving.{with_seen}
use Rattle.http_api.specs.declared.ending.Session.{Session}
use Rattle.http_api.specs.declared.limits.TheConstants.{MESSAGES_MAX}
use Rattle.serve_threads.specs.Visits.{AreWorked, IsServed, LinkSides, Visit, WorkState}
use Rattle.serve_threads.specs.WorkerView.{WorkerView, work_state}
use Rattle.serve_threads.specs.Working.{HavePassed}

-- a session was run on this link, which was given back; both are counted
pub record HoldsSession
    {H L : Type 0} (sides : LinkSides L) (host_key : List ℕ) (before : WorkerView H L) (link : L)
    (after : WorkerView H L)
    : Type 0 where
  pub session : Session
  pub given_back : L
  pub home : after.home ≡ before.home
  pub service : after.service ≡ with_seen before.service after.service.seen
  pub served : IsServed sides host_key (work_state before) (record { accepted = link; given_back = given_back }) session
      (work_state after)
  pub given : IsGivenBack before.door given_back after.door
  pub sessions : after.sessions ≡ before.sessions + 1
  pub messages : after.messages ≡ before.messages + session.messages

-- since the start these links passed the door, and work on later links is, with theirs, work since the start
pub record IsUnderway
    {H L : Type 0} (sides : LinkSides L) (host_key : List ℕ) (start now : WorkerView H L)
    : Type 0 where
  pub visits : List (Visit L)
  pub home : now.home ≡ start.home
  pub service : now.service ≡ with_seen start.service now.service.seen
  pub passed : HavePassed visits start.door now.door
  pub follows : (later : List (Visit L)) (more : ℕ) (after : WorkState)
      → AreWorked sides host_key (work_state now) later more after
      → AreWorked sides host_key (work_state start) (visits ++ later) (now.messages + more) after
  pub sessions : now.sessions ≡ length visits
  pub few : now.messages ≤ MESSAGES_MAX * now.sessions
