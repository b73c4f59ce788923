-- A head of a request as contracts see it.
use Rattle.std.specs.Prelude.{ℕ, List, map}
use Rattle.httparse.specs.Grammar.{RequestHead}
use Rattle.httparse.specs.Spans.{name_and_value}

-- its method, its target, the minor number of its version of HTTP/1, and its fields, each a name and a value
pub record HeadValue : Type 0 where
  pub method : List ℕ
  pub target : List ℕ
  pub minor : ℕ
  pub fields : List (List ℕ × List ℕ)

-- what a head of the grammar tells
abbrev pub told_by : RequestHead → HeadValue
told_by head =
    record { method = head.method; target = head.target; minor = head.minor; fields = map name_and_value head.fields }
