-- A link in memory as contracts see it.
use Rattle.desk_io.specs.SinkInMemory.{SinkValue}
use Rattle.desk_io.specs.SourceInMemory.{SourceValue}

-- what comes in, and what goes out
pub record LinkValue : Type 0 where
  pub source : SourceValue
  pub sink : SinkValue
