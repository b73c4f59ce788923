-- A source in memory as contracts see it, and what its reads answer.
use Rattle.std.specs.Prelude.{ℕ, Bool, ◌==◌, if◌then◌else◌, List, [], length, drop, min, Some}
use Rattle.std.specs.List.{list_any}
use Rattle.desk_io.specs.Faults.{next_count}
use Rattle.desk_io.specs.SourceView.{SourceView}
use Rattle.desk_io.specs.declared.source.Got.{Got}
use Rattle.desk_io.specs.declared.source.Got.TheVariants.{Bytes, End, Failed}

-- what is left, how many reads were made, the most bytes that a read gives, the numbers of the reads that fail, and how many failed
pub record SourceValue : Type 0 where
  pub left : List ℕ
  pub reads : ℕ
  pub cut : ℕ
  pub fails : List ℕ
  pub faults : ℕ

-- it tells what it has left
abbrev pub view_of_source : SourceValue → SourceView
view_of_source source = record { left = Some source.left; faults = source.faults; lenders = [] }

-- the call of this number is one of those that fail
abbrev pub is_failing : List ℕ → ℕ → Bool
is_failing fails number = list_any (λ n. n == number) fails

-- what the next read answers to a room of some bytes
abbrev pub read_answer : SourceValue → ℕ → Got
read_answer source room =
    if is_failing source.fails (next_count source.reads) then Failed
    else if length source.left == 0 then End
    else Bytes (min (min source.cut room) (length source.left))

-- the source after a read with this answer
abbrev pub after_read : SourceValue → Got → SourceValue
after_read source (Bytes n) = record source { left = drop n source.left; reads = next_count source.reads }
after_read source End = record source { reads = next_count source.reads }
after_read source Failed = record source { reads = next_count source.reads; faults = next_count source.faults }
