-- A source as contracts see it.
use Rattle.std.specs.Prelude.{ℕ, List, [], Option, None}
use Rattle.std.specs.Borrow.{GName}

-- the bytes that it has left, where it tells them, how many reads failed, and the borrows through which it reads, if any
pub record SourceView : Type 0 where
  pub left : Option (List ℕ)
  pub faults : ℕ
  pub lenders : List GName

-- the source beside a sink that is no link
abbrev pub no_source : SourceView
no_source = record { left = None; faults = 0; lenders = [] }
