-- The two ends of a call.
use Rattle.desk_io.specs.SinkView.{SinkView}
use Rattle.desk_io.specs.SourceView.{SourceView}

-- the input and the output of a call, before or after it
pub record CallState : Type 0 where
  pub source : SourceView
  pub sink : SinkView

abbrev pub call_at : SourceView → SinkView → CallState
call_at source sink = record { source = source; sink = sink }
