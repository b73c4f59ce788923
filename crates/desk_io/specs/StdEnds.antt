-- The ends of the real world as contracts see them: by the count of their failures alone.
use Rattle.std.specs.Prelude.{ℕ}
use Rattle.desk_io.specs.declared.std_ends.StdSource.{StdSource}
use Rattle.desk_io.specs.declared.std_ends.StdSink.{StdSink}

-- how many reads failed
abbrev pub read_failures : {R : Type 0} → StdSource R → ℕ
read_failures source = source.failures

-- how many writes failed
abbrev pub write_failures : {W : Type 0} → StdSink W → ℕ
write_failures sink = sink.failures
