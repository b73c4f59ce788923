-- What a buffer before a sink does: bytes wait in it, and are sent from its front.
use Rattle.std.specs.Prelude.{◌≡◌, ℕ, ◌≤◌, List, [], ◌++◌, Result, OnOk, OnErr}
use Rattle.desk_io.specs.Faults.{Rose}
use Rattle.desk_io.specs.SinkView.{SinkView}
use Rattle.desk_io.specs.Writing.{Appends, IsProperPrefix}

-- some bytes were sent from the front, and these others wait
abbrev pub SendsFront : SinkView → SinkView → List ℕ → List ℕ → Type 0
SendsFront sink sink_now bytes waiting = (sent : List ℕ) × Appends sink sink_now sent × (sent ++ waiting ≡ bytes)

-- a beginning of the bytes was sent, and not all of them
abbrev pub BreaksOff : SinkView → SinkView → List ℕ → Type 0
BreaksOff sink sink_now bytes = (sent : List ℕ) × Appends sink sink_now sent × IsProperPrefix sent bytes

-- the bytes were put behind those that waited
pub record Puts {T E : Type 0} (sink sink_now : SinkView) (waiting waiting_now bytes : List ℕ) (result : Result T E)
    : Type 0 where
  pub put : OnOk result (SendsFront sink sink_now (waiting ++ bytes) waiting_now)
  pub broken : OnErr result (BreaksOff sink sink_now (waiting ++ bytes))
  pub cause : OnErr result (Rose sink.faults sink_now.faults)
  pub faults : sink.faults ≤ sink_now.faults

-- the bytes were sent
pub record Sends {T E : Type 0} (sink sink_now : SinkView) (bytes : List ℕ) (result : Result T E) : Type 0 where
  pub sent : OnOk result (Appends sink sink_now bytes)
  pub broken : OnErr result (BreaksOff sink sink_now bytes)
  pub cause : OnErr result (Rose sink.faults sink_now.faults)
  pub faults : sink.faults ≤ sink_now.faults

-- all that waited was sent, and nothing waits
pub record Flushes {T E : Type 0} (sink sink_now : SinkView) (waiting waiting_now : List ℕ) (result : Result T E)
    : Type 0 where
  pub sends : Sends sink sink_now waiting result
  pub empty : OnOk result (waiting_now ≡ [])
