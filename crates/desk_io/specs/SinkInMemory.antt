-- A sink in memory as contracts see it, and what its writes answer.
use Rattle.std.specs.Prelude.{ℕ, ◌-◌, ◌^◌, ◌==◌, if◌then◌else◌, List, [], ◌++◌, length, take, min, Some}
use Rattle.desk_io.specs.Faults.{next_count}
use Rattle.desk_io.specs.SinkView.{SinkView}
use Rattle.desk_io.specs.SourceInMemory.{is_failing}
use Rattle.desk_io.specs.declared.sink.Put.{Put}
use Rattle.desk_io.specs.declared.sink.Put.TheVariants.{Took, Failed}

-- what was written, for how many bytes there is room in all, how many writes were made, the most bytes that a write takes, the numbers of the writes that fail, and how many failed
pub record SinkValue : Type 0 where
  pub written : List ℕ
  pub room : ℕ
  pub writes : ℕ
  pub cut : ℕ
  pub fails : List ℕ
  pub faults : ℕ

-- the number of bytes that it took, as a count of 64 bits that stays at its last value
abbrev pub bytes_taken : SinkValue → ℕ
bytes_taken sink = min (length sink.written) (2 ^ 64 - 1)

-- it tells what was written and how many bytes it took
abbrev pub view_of_sink : SinkValue → SinkView
view_of_sink sink =
    record { written = Some sink.written; taken = Some (bytes_taken sink); faults = sink.faults; lenders = [] }

-- what the next write answers to some bytes: it also fails where the room is full
abbrev pub write_answer : SinkValue → ℕ → Put
write_answer sink given =
    if is_failing sink.fails (next_count sink.writes) then Failed
    else if sink.room - length sink.written == 0 then Failed
    else Took (min (min sink.cut given) (sink.room - length sink.written))

-- the sink after a write of these bytes with this answer
abbrev pub after_write : SinkValue → List ℕ → Put → SinkValue
after_write sink bytes (Took n) =
    record sink { written = sink.written ++ take n bytes; writes = next_count sink.writes }
after_write sink bytes Failed = record sink { writes = next_count sink.writes; faults = next_count sink.faults }
