-- A sink as contracts see it.
use Rattle.std.specs.Prelude.{ℕ, List, [], Option, None}
use Rattle.std.specs.Borrow.{GName}

-- the bytes that were written and how many bytes it took, where it tells them, how many writes failed, and the borrows through which it writes, if any
pub record SinkView : Type 0 where
  pub written : Option (List ℕ)
  pub taken : Option ℕ
  pub faults : ℕ
  pub lenders : List GName

-- the sink beside a source that is no link
abbrev pub no_sink : SinkView
no_sink = record { written = None; taken = None; faults = 0; lenders = [] }
