-- What a worker does with the links that it takes, one after another.
use Rattle.std.specs.Prelude.{◌≡◌, ℕ, ◌+◌, ◌≤◌, List, [], ◌∷◌, Option}
use Rattle.desk_io.specs.SinkView.{SinkView}
use Rattle.desk_io.specs.SourceView.{SourceView}
use Rattle.desk_types.specs.Serving.{IsIdle, ServiceView}
use Rattle.http_api.specs.declared.ending.Session.{Session}
use Rattle.http_api.specs.SessionRun.{IsSession, SessionState, session_at}

-- a link as it was accepted, and as it was given back
pub record Visit (L : Type 0) : Type 0 where
  pub accepted : L
  pub given_back : L

-- how contracts see the two sides of a link
pub record LinkSides (L : Type 0) : Type 0 where
  pub source : L → SourceView
  pub sink : L → SinkView

abbrev pub link_sides : {L : Type 0} → (L → SourceView) → (L → SinkView) → LinkSides L
link_sides source sink = record { source = source; sink = sink }

-- a service, and the moments that a clock tells
pub record WorkState : Type 0 where
  pub service : ServiceView
  pub moments : Option (List ℕ)

-- the same with a link
abbrev pub session_on : {L : Type 0} → LinkSides L → L → WorkState → SessionState
session_on sides link state = session_at state.service (sides.source link) (sides.sink link) state.moments

-- a session was run on a link, whose borrows stay and whose counts of faults never fall
pub record IsServed
    {L : Type 0} (sides : LinkSides L) (host_key : List ℕ) (before : WorkState) (visit : Visit L) (session : Session)
    (after : WorkState)
    : Type 0 where
  pub run : IsSession host_key (session_on sides visit.accepted before) (session_on sides visit.given_back after)
      session
  pub lenders : (sides.source visit.given_back).lenders ≡ (sides.source visit.accepted).lenders
  pub read_faults : (sides.source visit.accepted).faults ≤ (sides.source visit.given_back).faults
  pub write_faults : (sides.sink visit.accepted).faults ≤ (sides.sink visit.given_back).faults

-- a session was run on each of these links, one after another, and together they wrote so many answers wholly;
-- entries of others may come last
unfoldable pub AreWorked : {L : Type 0} → LinkSides L → List ℕ → WorkState → List (Visit L) → ℕ → WorkState → Type 0
AreWorked sides host_key before [] messages after =
    IsIdle before.service after.service × (after.moments ≡ before.moments) × (messages ≡ 0)
AreWorked sides host_key before (visit ∷ visits) messages after =
    (session : Session) × (between : WorkState) × (rest : ℕ) × IsServed sides host_key before visit session between
    × (messages ≡ session.messages + rest) × AreWorked sides host_key between visits rest after
